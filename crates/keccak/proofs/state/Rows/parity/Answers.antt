-- Four exclusive ors, each on what the one before left, are parity_row's.
use Rattle.keccak.proofs.state.Rows.parity.Goals as goal

pub returns : goal.returns
returns c =
    rw (
      c.bitxor-4.ensures,
      c.bitxor-3.ensures,
      c.bitxor-2.ensures,
      c.bitxor.ensures,
    )
