-- Texts that are added one behind the other. Assumes nothing.
use Rattle.std.specs.Prelude.{◌≡◌, List, [], ◌∷◌, ◌++◌, ℕ, ◌+◌, ◌<◌, length, get_or, take}
use Rattle.std.proofs.Common.{◌∙◌, add-one, take-suc}
use Rattle.std.proofs.Math.Path.{subst⁻¹}
use Rattle.walking.specs.declared.texts.Text.{Text}
use Rattle.walking.specs.Series.{series_text}
use Rattle.walking.specs.SeriesLaws.{series_append}
use Rattle.walking.specs.Adding.{Adds}
use Rattle.walking.specs.TextLaws.{written_both}

pub adds_both : {t u v : Text} {x y : List ℕ} → Adds t x u → Adds u y v → Adds t (x ++ y) v
adds_both a b = record { same_slice = b.same_slice ∙ a.same_slice; written = written_both _ _ _ _ _ _ _ _ a.written b.written }

-- a text by another name
pub adds_as : {t u : Text} {x y : List ℕ} → y ≡ x → Adds t x u → Adds t y u
adds_as {t} {u} e a = subst⁻¹ (λ z. Adds t z u) e a

-- one date more of a series
pub adds_date : {t u v : Text} (s : List ℕ) (i : ℕ) → i < length s → Adds t (series_text (take i s)) u → Adds u (series_text (get_or s i 0 ∷ [])) v
    → Adds t (series_text (take (i + 1) s)) v
adds_date s i h a b = rw (add-one i, take-suc s i 0 h, series_append (take i s) (get_or s i 0 ∷ [])) (adds_both a b)
