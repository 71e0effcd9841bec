-- The code's form of a state, five rows of five lanes, and of what it does to a row. Nothing here need be believed: the
-- steps promise KeccakP's.
use Rattle.std.specs.Prelude.{List, [], ◌∷◌, ℕ, ◌+◌, ◌<◌, get_or}
use Rattle.words.specs.Word.{xor, and, complement, rotl}
use Rattle.keccak.specs.declared.row.Row.{Row}
use Rattle.keccak.specs.declared.state.Rows.{Rows}

-- the five lanes from i on
abbrev pub row_of : List ℕ → ℕ → Row
row_of l i =
    record {
      a = get_or l i 0;
      b = get_or l (i + 1) 0;
      c = get_or l (i + 2) 0;
      d = get_or l (i + 3) 0;
      e = get_or l (i + 4) 0;
    }

abbrev pub rows_of : List ℕ → Rows
rows_of l = record { y0 = row_of l 0; y1 = row_of l 5; y2 = row_of l 10; y3 = row_of l 15; y4 = row_of l 20 }

abbrev pub from_rows : Row → Row → Row → Row → Row → List ℕ
from_rows p q r s t =
    p.a ∷ p.b ∷ p.c ∷ p.d ∷ p.e
    ∷ q.a ∷ q.b ∷ q.c ∷ q.d ∷ q.e
    ∷ r.a ∷ r.b ∷ r.c ∷ r.d ∷ r.e
    ∷ s.a ∷ s.b ∷ s.c ∷ s.d ∷ s.e
    ∷ t.a ∷ t.b ∷ t.c ∷ t.d ∷ t.e ∷ []

abbrev pub xor_row : Row → Row → Row
xor_row p q =
    record {
      a = xor p.a q.a;
      b = xor p.b q.b;
      c = xor p.c q.c;
      d = xor p.d q.d;
      e = xor p.e q.e;
    }

-- theta's C
abbrev pub parity_row : Rows → Row
parity_row p = xor_row (xor_row (xor_row (xor_row p.y0 p.y1) p.y2) p.y3) p.y4

-- theta's D from its C
abbrev pub effect_row : Row → Row
effect_row p =
    record {
      a = xor p.e (rotl 64 p.b 1);
      b = xor p.a (rotl 64 p.c 1);
      c = xor p.b (rotl 64 p.d 1);
      d = xor p.c (rotl 64 p.e 1);
      e = xor p.d (rotl 64 p.a 1);
    }

-- five offsets of rho, each less than a lane's width
pub record Offsets (a b c d e : ℕ) : Type 0 where
  pub first : a < 64
  pub second : b < 64
  pub third : c < 64
  pub fourth : d < 64
  pub fifth : e < 64

abbrev pub rotl_row : Row → ℕ → ℕ → ℕ → ℕ → ℕ → Row
rotl_row p i j k l m =
    record {
      a = rotl 64 p.a i;
      b = rotl 64 p.b j;
      c = rotl 64 p.c k;
      d = rotl 64 p.d l;
      e = rotl 64 p.e m;
    }

abbrev pub chi_row : Row → Row
chi_row p =
    record {
      a = xor p.a (and (complement 64 p.b) p.c);
      b = xor p.b (and (complement 64 p.c) p.d);
      c = xor p.c (and (complement 64 p.d) p.e);
      d = xor p.d (and (complement 64 p.e) p.a);
      e = xor p.e (and (complement 64 p.a) p.b);
    }
