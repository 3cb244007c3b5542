-- The twelve cases, the masses, the loads, the turns, the rotors and the plain engine, computed. Assumes nothing.
use mathlib.Core.List.{◌++◌}
use mathlib.Core.Path.{refl, ap₂}
use Prim.{Unit}
use lib.Ieee.{of_bits, to_bits, sub, mul, div, le, ne, of_int}
use lib.ListN.{take, drop}
use Rattle.cholesky.specs.Cholesky as cholesky
use Rattle.numbers.specs.Double as double
use Rattle.half_turn.specs.HalfTurn as turn
use Rattle.numbers.specs.Mat3 as mat3
use Rattle.mat6.specs.Mat6 as mat6
use Rattle.numbers.specs.Quaternion as quaternion
use Rattle.square_root.specs.SquareRoot as root
use Rattle.numbers.specs.Table.{tab}
use Rattle.numbers.specs.Vec3 as vec3
use Rattle.refusals.specs.Refusals as refusals
use Rattle.spatial.specs.Frame as frame
use Rattle.spatial.specs.Operators as operators
use Rattle.spatial.specs.Twist as twist
use Rattle.spatial.specs.Wrench as wrench
use Rattle.slots.specs.Slots as slots
use Rattle.builder.specs.Axis as axis
use Rattle.builder.specs.Build as build
use Rattle.builder.specs.Checks as builder
use Rattle.arm.specs.Joint as joint
use Rattle.arm.specs.Model as model
use Rattle.arm.specs.Topology as topology
use Rattle.calls.specs.Checks as checks
use Rattle.calls.specs.Position as position
use Rattle.inertia.specs.Inertia as inertia
use Rattle.base_solve.specs.BaseSolve as solve
use Rattle.articulated.specs.First as first
use Rattle.articulated.specs.Root as base
use Rattle.articulated.specs.Second as second
use Rattle.articulated.specs.Third as third
use Rattle.forward_passes.specs.First as firsts
use Rattle.forward_visits.specs.Kernel as visits
use Rattle.forward_slots.specs.Loads as loads
use Rattle.calls.specs.Plan as plan
use Rattle.forward_passes.specs.Root as roots
use Rattle.forward_slots.specs.Eliminate as eliminations
use Rattle.forward_passes.specs.Second as seconds
use Rattle.forward_slots.specs.Term as terms
use Rattle.forward_passes.specs.Third as thirds
use Rattle.composites.specs.Composite as composite
use Rattle.matrix_visits.specs.Kernel as columns
use Rattle.mass_matrix.specs.Checks as limits
use Rattle.mass_matrix.specs.MassMatrix as matrix
use Rattle.plain_entries.specs.Gather as gather
use Rattle.plain_entries.specs.Entries as entries
use Rattle.plain_matrix.specs.PlainMatrix as plain
use Rattle.standing.specs.Tree as tests
use Rattle.standing.specs.Standing as stands
use Rattle.composites.specs.Plan as sizes
use Rattle.matrix_columns.specs.Walk as walk
use Rattle.forward_dynamics.specs.Checks as inputs
use Rattle.forward_dynamics.specs.ForwardDynamics as dynamics
use Rattle.claims.specs.Cases.{twelve, masses, loads as added, turns, rotors, plain as plainly, standing, Hold}

-- ---- what computes: to unfold one of these is to unfold all that its line names

open-numbers : Type 0
unfolding of_bits to_bits sub mul div le ne of_int cholesky.less_of cholesky.below_to cholesky.factor_column cholesky.cholesky_to cholesky.forward_row cholesky.forward_to cholesky.back_row cholesky.back_to cholesky.solve_of double.finite double.abs_of double.max_of double.finite_to double.amax_to turn.sin_list turn.cos_list turn.horner_of turn.half_turn_of mat3.plus_of mat3.minus_of mat3.neg_of mat3.transpose_of mat3.apply_of mat3.times_of mat3.turned_of mat3.outer_of mat3.identity_by mat3.cross_matrix_of mat6.row_of mat6.apply_of quaternion.product_of quaternion.inverse_of quaternion.rotate_of quaternion.matrix_of root.root_of vec3.plus_of vec3.minus_of vec3.neg_of vec3.scale_of vec3.over_of vec3.dot_of vec3.cross_of
open-numbers = Unit {0}

open-spatial : Type 0
unfolding frame.product_of frame.turn_of frame.slide_of operators.wrench_to_parent operators.motion_to_child operators.motion_cross operators.force_cross operators.motion_force_dot twist.zeros_of twist.plus_of twist.scale_of twist.rotated_of wrench.zeros_of wrench.plus_of wrench.minus_of wrench.rotated_of slots.put_vec3 slots.mat3_at slots.put_mat3 slots.mat6_at slots.put_to slots.twist_at slots.put_twist slots.wrench_at slots.put_wrench slots.frame_at slots.put_frame slots.zero_to slots.cleared slots.part_of
open-spatial = Unit {0}

open-arm : Type 0
unfolding refusals.scan refusals.lowest refusals.found refusals.named_of refusals.plain_of refusals.or_else build.byte_slots build.double_slots build.axis_slot build.axis_slots build.rotor_slot build.rotor_slots build.model_of build.built_of builder.sized_by builder.axis_of builder.bad_axis builder.bad_row builder.bad_numbers builder.bad_rotation builder.bad_mass builder.bad_rotor builder.lists_verdict builder.verdict_of joint.motion_by axis.normed_axis axis.scaled_axis axis.unit_axis axis.kept_axis joint.not_unit joint.turned_of joint.frame_of joint.with_rotor model.empty_model model.motion_of model.joint_of model.link_of model.wild_joint model.wild_of topology.actives_of topology.value_of topology.holds_of topology.active_joint
open-arm = Unit {0}

open-calls : Type 0
unfolding checks.bad_value checks.values_verdict checks.far_turn checks.turns_verdict checks.bad_rotation position.visits_of position.ended position.advanced_by position.closing position.step_by position.iterate position.answer_by position.refused_at position.whole_of
open-calls = Unit {0}

open-matrix : Type 0
unfolding composite.composite_at composite.put_composite composite.shifted_of composite.to_parent_of composite.joined_of composite.force_of composite.entry_of columns.begun_of columns.frame_visit columns.add_into columns.composite_visit walk.base_rows walk.column_visit walk.column_found columns.root_columns columns.tested columns.root_visit columns.joint_visit columns.visit_of limits.rest_verdict limits.tame_verdict limits.inputs_verdict matrix.mass_matrix plan.plan_by sizes.put_pair sizes.add_rotor walk.put_entry walk.walk_step walk.climb walk.walk_of
open-matrix = Unit {0}

open-plain : Type 0
unfolding gather.gather gather.composite_to entries.along entries.to_root entries.number_of plain.joint_with plain.joint_entry plain.base_entry plain.corner_entry plain.entry_at plain.plain_entries plain.plain_matrix plain.plain_verdict plain.plain_call
open-plain = Unit {0}

open-standing : Type 0
unfolding tab plan.plan_by plain.joint_with tests.carries_in stands.reframed stands.composite_touched stands.own_touched stands.path_touched stands.stands_between stands.joint_mark stands.mark_at stands.marks_of stands.stands_verdict stands.stands_call
open-standing = Unit {0}

open-articulated : Type 0
unfolding inertia.from_blocks inertia.rigid_of inertia.inertia_apply inertia.signed_column inertia.unit inertia.along_of inertia.inertia_apply_joint inertia.subspace_of inertia.average_of solve.root_or solve.above_to solve.scale_of solve.scaled_of solve.divided_of solve.difference_of solve.over_of solve.column_sum solve.norm_to solve.size_of solve.basis solve.next_norm solve.inverse_to solve.residual_of solve.near_of solve.checked_of solve.solution_of solve.conditioned_of solve.factored_of solve.base_solve first.body_inertia first.bias_force first.first_of base.root_velocity base.gravity_local base.fixed_acceleration base.right_side base.world_acceleration base.judged_base base.solved_base base.base_of second.term_of second.judged_term third.carried_acceleration third.joint_acceleration third.moved_by
open-articulated = Unit {0}

open-dynamics : Type 0
unfolding firsts.parent_twist firsts.put_first firsts.first_at firsts.first_visit visits.outcome_of visits.pass_visit visits.visit_of loads.listed_to loads.added_to loads.sum_of loads.loads_to plan.plan_by roots.put_root roots.begun_of roots.base_at roots.kept_base roots.floating_root roots.root_visit terms.term_at terms.put_term eliminations.new_term eliminations.unless_refused eliminations.kept_term eliminations.eliminated seconds.propagated seconds.second_visit thirds.carried_at thirds.kept_joint thirds.solved_joint thirds.third_visit inputs.wild_number inputs.lower_of inputs.lower_if inputs.least_to inputs.wild_load inputs.motion_verdict inputs.forces_verdict inputs.loads_verdict inputs.root_verdict inputs.rest_verdict inputs.inputs_verdict dynamics.forward_dynamics
open-dynamics = Unit {0}

-- ---- in two parts, since the steps of one computation are limited

one-to-eight : Hold (take 8 twelve)
unfolding twelve open-numbers open-spatial open-arm open-calls open-matrix
one-to-eight = refl

nine-to-twelve : Hold (drop 8 twelve)
unfolding twelve open-numbers open-spatial open-arm open-calls open-matrix open-articulated open-dynamics
nine-to-twelve = refl

pub cases : Hold twelve
unfolding twelve
cases = ap₂ ◌++◌ one-to-eight nine-to-twelve

pub mass-cases : Hold masses
unfolding masses open-numbers open-spatial open-arm
mass-cases = refl

pub load-cases : Hold added
unfolding added open-numbers open-spatial open-arm open-calls open-articulated open-dynamics
load-cases = refl

pub turn-cases : Hold turns
unfolding turns open-numbers open-spatial open-arm open-calls open-matrix
turn-cases = refl

pub rotor-cases : Hold rotors
unfolding rotors open-numbers open-spatial open-arm open-calls open-matrix open-articulated open-dynamics
rotor-cases = refl

pub plain-cases : Hold plainly
unfolding plainly open-numbers open-spatial open-arm open-calls open-matrix open-plain
plain-cases = refl

pub standing-cases : Hold standing
unfolding standing open-arm open-standing
standing-cases = refl
