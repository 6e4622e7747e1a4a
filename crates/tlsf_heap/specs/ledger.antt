-- A heap with a ledger of what it gives and takes back.
pub mod Ledgers
pub mod Grants
