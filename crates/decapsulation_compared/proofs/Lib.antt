pub mod LentParts
