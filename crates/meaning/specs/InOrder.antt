-- A split key in order: every part has its length, z's shares are words of 64 bits, and h's elements bytes.
use Rattle.std.specs.Prelude.{◌^◌}
use Rattle.words.specs.Bounded.{Below}
use Rattle.parameters.specs.declared.Parameters.{Parameters}
use Rattle.split_key.specs.SplitKey.{SplitKey, h_of}
use Rattle.split_key.specs.Sized.{SplitSized}

pub record InOrder (p : Parameters) (key : SplitKey) : Type 0 where
  pub long : SplitSized p key
  pub words0 : Below (2 ^ 64) key.z.s0
  pub words1 : Below (2 ^ 64) key.z.s1
  pub bytes : Below 256 (h_of p key)
