-- Demand 3, as statements about what the lent rows hold on return (`Accuracy`, `Rows`), and what it says of quantiles (`Query`), of layer
-- costs (`Layer`), of starts from a law's own name (`GivenStart`), of laws from a publication (`GivenLaw`) and of claims that close at
-- nothing (`Zeros`); and which of the rows' numbers are exact (`Exactness`).
pub mod Accuracy
pub mod Rows
pub mod Query
pub mod Layer
pub mod GivenStart
pub mod GivenLaw
pub mod Zeros
pub mod Exactness
