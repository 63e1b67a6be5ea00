pub mod WhatIf
pub mod EarliestAfter
pub use Rattle.gateway_book.specs.Answer
pub use Rattle.gateway_book.specs.Step
pub use Rattle.gateway_book.specs.Book
pub use Rattle.gateway_book.specs.EarliestValue
pub use Rattle.resv_list.specs.Reservations
