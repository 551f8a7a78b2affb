-- Readings that look right and are not: tables on which each goes wrong. Assumes nothing.
use Rattle.std.specs.Prelude.{◌≡◌, refl, List, [], ◌∷◌, ℕ, ◌<◌, Ok, None, Option, Some}
use Rattle.std.proofs.Common.{subst, inl, inr, zero-le, suc-le-suc, arith}
use Rattle.meaning.specs.Flags.{flags}
use Rattle.automaton.specs.Tables.{Tables, Good, start, word}
use Rattle.automaton.proofs.TableLaws.{good_test, good_means}
use Rattle.automaton.specs.Fit.{NotAfter, Fits, FirstOf, FirstFit, Never}
use Rattle.automaton.specs.Rounds.{column}
use Rattle.automaton.specs.Search.{fit}
use Rattle.automaton.proofs.SearchLaws.{search_true}
use Rattle.walking.specs.FitAnswers.{Shown, Searched}

-- from state 0 to 1 on any date and to 2 on one without flag a; from 1 to 3 on one with a and b, from 2 to 3 on one with b
unfoldable pub two_paths : Tables
two_paths = record {
  states = 4;
  edge_count = 4;
  starts = 0 ∷ 2 ∷ 3 ∷ 4 ∷ 4 ∷ [];
  accepts = 0 ∷ 0 ∷ 0 ∷ 1 ∷ [];
  edges = word flags 0 0 1 ∷ word flags 0 1 2 ∷ word flags 3 0 3 ∷ word flags 2 0 3 ∷ [];
}

two_good : Good flags two_paths
unfolding good_test two_paths
two_good = (good_means flags two_paths).0 tt

pub two_first : FirstFit flags two_paths (Some (0 ∷ 2 ∷ []))
unfolding two_paths
two_first = subst (FirstFit flags two_paths) computed (search_true flags two_paths two_good)
  where
    computed : fit flags two_paths (column flags two_paths) ≡ Some (0 ∷ 2 ∷ [])
    computed = refl

-- the smallest date of each edge along the first short path is not the first fit
pub along_a_path_wrong : FirstOf (Fits flags two_paths 0) (0 ∷ 3 ∷ []) → ⊥
along_a_path_wrong f = go (f.first (0 ∷ 2 ∷ []) two_first.fits refl)
  where
    go : NotAfter (0 ∷ 3 ∷ []) (0 ∷ 2 ∷ []) → ⊥
    go (inl h) = omega arith
    go (inr (e, inl h)) = omega arith
    go (inr (e, inr (h, rest))) = omega arith

-- a search that always says none is wrong
pub always_none_wrong : (before after : List ℕ) → Searched two_paths before after (Ok None) → ⊥
always_none_wrong before after p = let (s, f, h) = p.told.2 in go s f h
  where
    go : (s : Option (List ℕ)) → FirstFit flags two_paths s → Shown before after s None → ⊥
    go None f h = f (0 ∷ 2 ∷ []) two_first.fits
    go (Some s) f h = h

-- one state, with an edge to itself on a date with flag a, that does not accept
unfoldable pub always : Tables
always = record { states = 1; edge_count = 1; starts = 0 ∷ 1 ∷ []; accepts = 0 ∷ []; edges = word flags 1 0 0 ∷ [] }

always_good : Good flags always
unfolding good_test always
always_good = (good_means flags always).0 tt

-- an empty row is not the only sign that nothing fits
pub edge_without_fit : (start always 0 < start always 1) × Never flags always 0
unfolding always
edge_without_fit = (suc-le-suc zero-le, subst (FirstFit flags always) computed (search_true flags always always_good))
  where
    computed : fit flags always (column flags always) ≡ None
    computed = refl
