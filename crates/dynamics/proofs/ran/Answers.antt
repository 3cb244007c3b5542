use lib.ListN.{length}
use mathlib.Core.Path.{sym}
use Rattle.calls.proofs.Steps.{run-ahead}
use Rattle.forward_visits.specs.Inputs.{inputs_of}
use Rattle.dynamics.proofs.Works.{planned-joints, ready-matrix, ready-forward, ran-matrix, ran-forward}
use Rattle.dynamics.proofs.ran.Goals as goal

pub invariant_of-fitted-clause-fit : goal.invariant_of-fitted-clause-fit
invariant_of-fitted-clause-fit c = (ready-matrix c.args.c c.args.model.now c.args.a c.requires.counted c.floats.ensures c.planned-plan.ensures.0 c.args.numbers.now (inputs_of c.args.inputs.now) (length c.args.ws.now) (length c.args.out.now) c.args.from c.requires.numbered c.requires.judged c.requires.within c.in-Matrix.is).0.fit

pub invariant_of-fitted-clause-joints : goal.invariant_of-fitted-clause-joints
invariant_of-fitted-clause-joints c = planned-joints c.args.c c.args.model.now c.args.a c.requires.counted c.floats.ensures c.planned-plan.ensures.0

pub invariant_of-task : goal.invariant_of-task
invariant_of-task c = record { counted = (ready-matrix c.args.c c.args.model.now c.args.a c.requires.counted c.floats.ensures c.planned-plan.ensures.0 c.args.numbers.now (inputs_of c.args.inputs.now) (length c.args.ws.now) (length c.args.out.now) c.args.from c.requires.numbered c.requires.judged c.requires.within c.in-Matrix.is).0.values }

pub run-requires : goal.run-requires
run-requires c = let ready = ready-matrix c.args.c c.args.model.now c.args.a c.requires.counted c.floats.ensures c.planned-plan.ensures.0 c.args.numbers.now (inputs_of c.args.inputs.now) (length c.args.ws.now) (length c.args.out.now) c.args.from c.requires.numbered c.requires.judged c.requires.within c.in-Matrix.is in (ready.0.room, ready.0.output, ready.1)

pub answer-requires : goal.answer-requires
answer-requires c = run-ahead _ _ _ _ _ _ c.run.ensures

pub returns-in-Matrix : goal.returns-in-Matrix
returns-in-Matrix c = ran-matrix c.args.c c.args.model.now c.args.a c.requires.counted c.floats.ensures c.planned-plan.ensures.0 (inputs_of c.args.inputs.now) c.args.budget c.args.from c.args.ws.now c.args.out.now _ c.answer.ensures _ c.in-Matrix.is c.rotation-rotation.ensures c.run.ensures

pub invariant_of-arm-clause-fit : goal.invariant_of-arm-clause-fit
invariant_of-arm-clause-fit c = (ready-forward c.args.c c.args.model.now c.args.a c.requires.counted c.floats.ensures c.planned-plan.ensures.0 c.args.numbers.now (inputs_of c.args.inputs.now) (length c.args.ws.now) (length c.args.out.now) c.args.from c.requires.numbered c.requires.judged c.requires.within c.in-Forward.is).0.fit

pub invariant_of-arm-clause-sized : goal.invariant_of-arm-clause-sized
invariant_of-arm-clause-sized c = sym (planned-joints c.args.c c.args.model.now c.args.a c.requires.counted c.floats.ensures c.planned-plan.ensures.0)

pub invariant_of-task-in-Forward : goal.invariant_of-task-in-Forward
invariant_of-task-in-Forward c =
    let ready = ready-forward c.args.c c.args.model.now c.args.a c.requires.counted c.floats.ensures c.planned-plan.ensures.0 c.args.numbers.now (inputs_of c.args.inputs.now) (length c.args.ws.now) (length c.args.out.now) c.args.from c.requires.numbered c.requires.judged c.requires.within c.in-Forward.is in
    record { values = ready.0.values; speeds = ready.0.speeds; given = ready.0.given; sixes = ready.0.sixes }

pub run-requires-in-Forward : goal.run-requires-in-Forward
run-requires-in-Forward c = let ready = ready-forward c.args.c c.args.model.now c.args.a c.requires.counted c.floats.ensures c.planned-plan.ensures.0 c.args.numbers.now (inputs_of c.args.inputs.now) (length c.args.ws.now) (length c.args.out.now) c.args.from c.requires.numbered c.requires.judged c.requires.within c.in-Forward.is in (ready.0.room, ready.0.output, ready.1)

pub answer-requires-in-Forward : goal.answer-requires-in-Forward
answer-requires-in-Forward c = run-ahead _ _ _ _ _ _ c.run-in-Forward.ensures

pub returns-in-Forward : goal.returns-in-Forward
returns-in-Forward c = ran-forward c.args.c c.args.model.now c.args.a c.requires.counted c.floats.ensures c.planned-plan.ensures.0 (inputs_of c.args.inputs.now) c.args.budget c.args.from c.args.ws.now c.args.out.now _ c.answer-in-Forward.ensures _ _ _ c.in-Forward.is c.rotation-rotation-in-Forward.ensures c.base.ensures c.root_velocity-velocity.ensures c.run-in-Forward.ensures
