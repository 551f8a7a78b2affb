-- The count of a formula's choices and the choice with a number, for each kind of formula. Assumes nothing.
use Rattle.std.specs.Prelude.{ℕ, ◌+◌, ◌-◌, ◌*◌, ◌/◌, ◌%◌, ◌≤◌, ◌<◌, ◌≡◌, Bool, false, List, ◌++◌, length}
use Rattle.std.proofs.Common.{arith, ◌∙◌}
use Rattle.std.proofs.Math.Path.{ap, subst}
use Rattle.std.proofs.Math.Bool.{true}
use Rattle.std.proofs.Math.ListN.{get_or, length-append}
use Rattle.meaning.specs.Formula.{Formula as Tree, and, or, until, release}
use Rattle.tables.specs.declared.Choice.{Choice}
use Rattle.tables.specs.Choices.{choice, free, join, both, only, choices}
use Rattle.tables.specs.Indexing.{length_both, length_both_only, at_first, at_second, at_both, at_both_only}

module _ (put : Bool → Tree → ℕ) where
  abbrev many : Tree → ℕ
  many φ = length (choices put φ)

  abbrev at : Tree → ℕ → Choice
  at φ n = get_or (choices put φ) n free

  pub len_and : (p q : Tree) → many (and p q) ≡ many p * many q
  unfolding choices
  len_and p q = length_both (choices put p) (choices put q)

  pub len_or : (p q : Tree) → many (or p q) ≡ many p + many q
  unfolding choices
  len_or p q = length-append (choices put p) (choices put q)

  pub len_until : (p q : Tree) → many (until p q) ≡ many q + many p
  unfolding choices
  len_until p q =
      length-append (choices put q) (both (choices put p) (only (choice 0 0 (put true (until p q)))))
      ∙ ap (λ (n : ℕ). many q + n) (length_both_only (choices put p) (choice 0 0 (put true (until p q))))

  -- those of the right side of a release: p, or this formula next
  abbrev held : Tree → Tree → List Choice
  held p q = choices put p ++ only (choice 0 0 (put false (release p q)))

  len_held : (p q : Tree) → length (held p q) ≡ many p + 1
  len_held p q = length-append (choices put p) (only (choice 0 0 (put false (release p q))))

  pub len_release : (p q : Tree) → many (release p q) ≡ many q * (many p + 1)
  unfolding choices
  len_release p q = length_both (choices put q) (held p q) ∙ ap (λ (n : ℕ). many q * n) (len_held p q)

  pub at_and : (p q : Tree) (n : ℕ) → n < many p * many q → at (and p q) n ≡ join (at p (n / many q)) (at q (n % many q))
  unfolding choices
  at_and p q n h = at_both (choices put p) (choices put q) n h

  pub at_or_left : (p q : Tree) (n : ℕ) → n < many p → at (or p q) n ≡ at p n
  unfolding choices
  at_or_left p q n h = at_first (choices put p) (choices put q) n h

  pub at_or_right : (p q : Tree) (n : ℕ) → many p ≤ n → at (or p q) n ≡ at q (n - many p)
  unfolding choices
  at_or_right p q n h = at_second (choices put p) (choices put q) n h

  pub at_until_now : (p q : Tree) (n : ℕ) → n < many q → at (until p q) n ≡ at q n
  unfolding choices
  at_until_now p q n h = at_first (choices put q) (both (choices put p) (only (choice 0 0 (put true (until p q))))) n h

  pub at_until_later : (p q : Tree) (n : ℕ) → many q ≤ n → n - many q < many p
      → at (until p q) n ≡ join (at p (n - many q)) (choice 0 0 (put true (until p q)))
  unfolding choices
  at_until_later p q n h l =
      at_second (choices put q) (both (choices put p) (only (choice 0 0 (put true (until p q))))) n h
      ∙ at_both_only (choices put p) (choice 0 0 (put true (until p q))) (n - many q) l

  at_release : (p q : Tree) (n : ℕ) → n < many q * (many p + 1)
      → at (release p q) n ≡ join (at q (n / (many p + 1))) (get_or (held p q) (n % (many p + 1)) free)
  unfolding choices
  at_release p q n h =
      subst (λ (x : ℕ). n < many q * x → get_or (both (choices put q) (held p q)) n free ≡ join (at q (n / x)) (get_or (held p q) (n % x) free))
      (len_held p q) (at_both (choices put q) (held p q) n) h

  pub at_release_now : (p q : Tree) (n : ℕ) → n < many q * (many p + 1) → n % (many p + 1) < many p
      → at (release p q) n ≡ join (at q (n / (many p + 1))) (at p (n % (many p + 1)))
  at_release_now p q n h l =
      at_release p q n h ∙ ap (join (at q (n / (many p + 1)))) (at_first (choices put p) (only (choice 0 0 (put false (release p q)))) (n % (many p + 1)) l)

  pub at_release_later : (p q : Tree) (n : ℕ) → n < many q * (many p + 1) → n % (many p + 1) ≡ many p
      → at (release p q) n ≡ join (at q (n / (many p + 1))) (choice 0 0 (put false (release p q)))
  at_release_later p q n h l =
      at_release p q n h ∙ ap (join (at q (n / (many p + 1))))
      (ap (λ (x : ℕ). get_or (held p q) x free) l ∙ at_second (choices put p) (only (choice 0 0 (put false (release p q)))) (many p) (omega arith)
      ∙ ap (λ (x : ℕ). get_or (only (choice 0 0 (put false (release p q)))) x free) (none (many p)))
    where
      none : (x : ℕ) → x - x ≡ 0
      none x = omega arith
