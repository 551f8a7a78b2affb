-- The formula that a text's tree is pushed to says what the tree says, once over the dialect. Assumes nothing.
use Rattle.std.specs.Prelude.{Bool, ◌↔◌}
use Rattle.std.proofs.Math.Bool.{true, false}
use Rattle.std.proofs.Math.Logic.Iff
use Rattle.laws.specs.Decided.{same?, or_iff, neither, not_both, not_not}
use Rattle.meaning.specs.Formula.{Series}
use Rattle.meaning.specs.Meaning.{Always, Never, Clauses, holds_by}
use Rattle.meaning.specs.Syntax.{Syntax, flag, one, zero, not, next, weak, finally, globally, until, release, and, or, implies, means_by, signed, nnf}
use Rattle.meaning.proofs.Lawful.{Lawful}
use Rattle.meaning.proofs.Holding.{decided}

-- A as it stands (true), or its negation (false)
abbrev Sign : Bool → Type 0 → Type 0
Sign true A = A
Sign false A = ¬ A

module _ (C : Clauses) (L : Lawful C) where
  always_not : (s : Series) → L.Looked s → Never s ↔ (¬ Always s)
  always_not s l = (λ h. absurd h, λ h. h tt)

  never_not : (s : Series) → L.Looked s → Always s ↔ (¬ Never s)
  never_not s l = (λ t h. h, λ h. tt)

  always? : (s : Series) → L.Looked s → Dec (Always s)
  always? s l = yes tt

  never? : (s : Series) → L.Looked s → Dec (Never s)
  never? s l = no (λ h. h)

  decide : (p : Syntax) → ((s : Series) → L.Looked s → holds_by C (signed true p) s ↔ means_by C p s) → (s : Series) → L.Looked s → Dec (means_by C p s)
  decide p e s l = same? (Iff.symm (e s l)) (decided C L (signed true p) s l)

  signed_means : (p : Syntax) (b : Bool) (s : Series) → L.Looked s → holds_by C (signed b p) s ↔ Sign b (means_by C p s)
  unfolding signed
  signed_means (flag k) true s l = Iff.rfl
  signed_means (flag k) false s l = Iff.rfl
  signed_means one true s l = Iff.rfl
  signed_means one false s l = always_not s l
  signed_means zero true s l = Iff.rfl
  signed_means zero false s l = never_not s l
  signed_means (not p) true s l = signed_means p false s l
  signed_means (not p) false s l = Iff.trans (signed_means p true s l) (not_not (decide p (signed_means p true) s l))
  signed_means (next p) true s l = L.next_iff _ _ (signed_means p true) s l
  signed_means (next p) false s l = L.not_next _ _ (signed_means p false) s l
  signed_means (weak p) true s l = L.weak_iff _ _ (signed_means p true) s l
  signed_means (weak p) false s l = L.not_weak _ _ (signed_means p false) s l
  signed_means (finally p) true s l = L.until_iff _ _ _ _ (λ t h. Iff.rfl) (signed_means p true) s l
  signed_means (finally p) false s l = L.not_until _ _ always_not _ _ (signed_means p false) always? (decide p (signed_means p true)) s l
  signed_means (globally p) true s l = L.release_iff _ _ _ _ (λ t h. Iff.rfl) (signed_means p true) s l
  signed_means (globally p) false s l = L.not_release _ _ never_not _ _ (signed_means p false) never? (decide p (signed_means p true)) s l
  signed_means (until p q) true s l = L.until_iff _ _ _ _ (signed_means p true) (signed_means q true) s l
  signed_means (until p q) false s l =
      L.not_until _ _ (signed_means p false) _ _ (signed_means q false) (decide p (signed_means p true)) (decide q (signed_means q true)) s l
  signed_means (release p q) true s l = L.release_iff _ _ _ _ (signed_means p true) (signed_means q true) s l
  signed_means (release p q) false s l =
      L.not_release _ _ (signed_means p false) _ _ (signed_means q false) (decide p (signed_means p true)) (decide q (signed_means q true)) s l
  signed_means (and p q) true s l = Iff.and (signed_means p true s l) (signed_means q true s l)
  signed_means (and p q) false s l =
      Iff.trans (or_iff (signed_means p false s l) (signed_means q false s l)) (not_both (decide p (signed_means p true) s l))
  signed_means (or p q) true s l = or_iff (signed_means p true s l) (signed_means q true s l)
  signed_means (or p q) false s l = Iff.trans (Iff.and (signed_means p false s l) (signed_means q false s l)) neither
  signed_means (implies p q) true s l = or_iff (signed_means p false s l) (signed_means q true s l)
  signed_means (implies p q) false s l =
      Iff.trans (Iff.and (Iff.trans (signed_means p true s l) (not_not (decide p (signed_means p true) s l))) (signed_means q false s l)) neither

  -- on every series that the dialect looks at
  pub nnf_says : (p : Syntax) (s : Series) → L.Looked s → means_by C p s ↔ holds_by C (nnf p) s
  unfolding nnf
  nnf_says p s l = Iff.symm (signed_means p true s l)

  -- and the answer is the same on every series
  pub nnf_asks : (p : Syntax) (s : Series) → C.ask (means_by C p) s ↔ C.ask (holds_by C (nnf p)) s
  nnf_asks p = L.ask_iff (means_by C p) (holds_by C (nnf p)) (nnf_says p)
