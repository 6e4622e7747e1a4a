-- The bytes of a chunk are those that it was made of, whatever zeros stand behind them.
pub mod Padding
