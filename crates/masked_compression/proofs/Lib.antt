pub mod FixedPoint
