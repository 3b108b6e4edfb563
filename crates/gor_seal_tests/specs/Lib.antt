pub mod Turnover
