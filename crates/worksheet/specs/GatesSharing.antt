-- What the gates make of sharings: shares of the same width, and the words that they stand for.
use Rattle.std.specs.Prelude.{ℕ}
use Rattle.words.specs.Word.{xor, and, complement}
use Rattle.words.specs.Bits.{or}
use Rattle.words.specs.WordLaws.{low_bits}
use Rattle.worksheet.specs.Shares.{Shares}
use Rattle.worksheet.specs.Prog.{◌>>=◌, mask, mask_low, entry}
use Rattle.worksheet.specs.Gives.{Gives, ret_g, draw_g, enter_g, gives_bind}
use Rattle.worksheet.specs.SharingLaws.{Sharing, sharing-xor_shares, sharing-not_shares}
use Rattle.worksheet.specs.MaskedAnd.{masked_and}
use Rattle.worksheet.specs.MaskedAndSilence.{sharing-result}
use Rattle.worksheet.specs.Gates.{masked_not, masked_xor, masked_or}

module _ {n X : ℕ} {u : Shares} (s : Sharing n X u) where
  pub sharing-masked_not : Gives (Sharing n (complement n X)) (masked_not n u)
  unfolding masked_not entry ◌>>=◌
  sharing-masked_not = enter_g (ret_g (sharing-not_shares s))

module _ {n X Y : ℕ} {u v : Shares} (s : Sharing n X u) (t : Sharing n Y v) where
  pub sharing-masked_xor : Gives (Sharing n (xor X Y)) (masked_xor u v)
  unfolding masked_xor entry ◌>>=◌
  sharing-masked_xor = enter_g (enter_g (ret_g (sharing-xor_shares s t)))

  pub sharing-masked_and : Gives (Sharing n (and X Y)) (masked_and n u v)
  unfolding masked_and mask_low mask entry ◌>>=◌
  sharing-masked_and =
      draw_g (λ x h.
      enter_g
      (enter_g (enter_g (enter_g (enter_g (enter_g (enter_g (enter_g (ret_g (sharing-result s t (low_bits x)))))))))))

module _ {n X Y : ℕ} {u v : Shares} (s : Sharing n X u) (t : Sharing n Y v) where
  pub sharing-masked_or : Gives (Sharing n (or n X Y)) (masked_or n u v)
  unfolding masked_or or
  sharing-masked_or =
      gives_bind (sharing-masked_not s) (λ a p.
      gives_bind (sharing-masked_not t) (λ b q.
      gives_bind (sharing-masked_and p q) (λ z r. sharing-masked_not r)))
