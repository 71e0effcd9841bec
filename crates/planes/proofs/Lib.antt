pub mod TranspositionLaws
