-- What sampling answers and leaves, by what SampleNTT answers of the stream.
use mathlib.Core.Path.{◌≡◌, refl, sym, ap}
use mathlib.Core.Bool.{Bool, true, false, cond}
use mathlib.Core.List.{List, [], ◌∷◌}
use Prim.Native.Nat.{ℕ}
use Rattle.sampling.specs.Sample.{full, sample_ntt}
use Rattle.sampling.specs.SampleAnswer.{answer_of}
use Rattle.refusals.specs.declared.Refusal.TheVariants.{WrongLength, ShortStream}
use Rattle.refusals.specs.Refusals.{Answer, number, lent, sized}
use Rattle.refusals.specs.RefusalLaws.{refused, passed, no_row}
use Rattle.mlkem.specs.Calls.{sample_answer, StreamSampled}

pub stream-sampled : {a : Answer} {stream out₀ out₁ : List ℕ}
    → sized (lent stream 840 ∷ lent out₀ 256 ∷ []) ≡ true → a ≡ answer_of (full stream)
    → out₁ ≡ cond (full stream) (sample_ntt stream) out₀ → StreamSampled stream out₀ (number a) out₁
unfolding sample_answer
stream-sampled {a} {stream} {out₀} {out₁} l e o = go (full stream) refl e o
  where
    go : (b : Bool) → full stream ≡ b → a ≡ answer_of b → out₁ ≡ cond b (sample_ntt stream) out₀
        → StreamSampled stream out₀ (number a) out₁
    go true t ea eo =
        rw ea
        (record { answer = ap number (sym (passed WrongLength _ l (passed ShortStream _ t no_row))); out = eo })
    go false t ea eo =
        rw ea (record { answer = ap number (sym (passed WrongLength _ l (refused ShortStream _ t))); out = eo })
