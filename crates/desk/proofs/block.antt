pub mod Cut
mod Laws
