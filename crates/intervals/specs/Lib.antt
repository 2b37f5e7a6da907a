-- A row of lows and a row of highs: their checks (`Checks`), and the exact amounts that they enclose (`Amounts`).
pub mod Checks
pub mod Amounts
