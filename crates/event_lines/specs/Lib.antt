pub mod EventText
pub mod Laws
