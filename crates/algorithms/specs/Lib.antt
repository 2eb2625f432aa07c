pub mod DigestKind
pub mod Held
pub mod Digests
pub mod SignatureKind
