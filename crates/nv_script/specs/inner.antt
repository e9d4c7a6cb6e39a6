-- What contracts of private functions alone cite: who reads what the public ones say can pass it over.
pub mod Going
pub mod ArrivalViews
pub mod Views
