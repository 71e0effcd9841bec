-- A split key as it is lent: by the lists behind its slices.
use Rattle.split_key.specs.declared.SplitKey as code
use Rattle.split_key.specs.SplitKey.{SplitKey, split_key}

abbrev pub split_key_of : code.SplitKey → SplitKey
split_key_of key = split_key key.s0.now key.s1.now key.z0.now key.z1.now key.public.now
