-- Laws that the proofs of decisions over places share.
pub mod Tags
