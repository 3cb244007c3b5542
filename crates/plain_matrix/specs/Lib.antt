pub mod PlainMatrix
