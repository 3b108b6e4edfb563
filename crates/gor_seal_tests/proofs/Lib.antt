pub mod Turnovers
