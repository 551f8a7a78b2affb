use Rattle.std.specs.Option.{MatchOption, option_eq}
use Rattle.std.specs.List.{HoldsAt}
use Rattle.std.proofs.Common.{◌≡◌, ◌≤◌, ◌<◌, ◌∙◌, sym, ap, refl, length, ℕ, Bool, List, Bor}
use Rattle.std.specs.Prelude.{Option, Some, None}
use Rattle.std.proofs.Math.Dec.{eqb}
use Rattle.std.proofs.Math.Path.{subst}
use Rattle.reading.specs.Parts.{ClosesAt, closes_inside, closes_end}
use Rattle.reading.proofs.signs.closes_at.Goals as goal

pub returns : goal.returns
returns c = rw c.eq.ensures (got _ _ _ _ (λ x. refl) c.get.result c.get.ensures.lookup.3)
  where
    got : (text : List ℕ) (at : ℕ) (equals : Bor ℕ → Bor ℕ → Bool) (b : Bor ℕ) → ((x : Bor ℕ) → equals x b ≡ eqb x.now 41) → (o : Option (Bor ℕ))
        → MatchOption o (length text ≤ at) (λ x. (at < length text) × HoldsAt (λ y. x.now ≡ y) text at) → ClosesAt text at (option_eq equals o (Some b))
    got text at equals b e None h = closes_end text at h
    got text at equals b e (Some x) (h, k) = subst (ClosesAt text at) (sym (e x ∙ ap (λ (n : ℕ). eqb n 41) (k 0))) (closes_inside text at h)
