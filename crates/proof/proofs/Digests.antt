-- What a sponge gives is bytes, whatever it takes in; so is every digest.
-- Assumes nothing.
pub use Rattle.instance.proofs.Hashed.{front_bytes, sha3-bytes}
