pub mod Keypair
