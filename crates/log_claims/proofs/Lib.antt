pub mod Numbers
pub mod Values
pub mod Lead
