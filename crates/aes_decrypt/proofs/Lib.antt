pub mod InvTurns
