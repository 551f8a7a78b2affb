-- An edge as a word: its three parts are read back from it, so two words of edges to states that are met are equal only where the edges are. Assumes
-- nothing.
use Rattle.std.specs.Prelude.{ℕ, ◌≡◌, refl, List, [], ◌∷◌, map, eqb, get_or}
use Rattle.std.proofs.Common.{sym, ap, ◌∙◌}
use Rattle.laws.specs.Decided.{eq_means}
use Rattle.laws.specs.Lists.{All, In}
use Rattle.laws.specs.Places.{Grows, place, place_found}
use Rattle.meaning.specs.Flags.{flags}
use Rattle.automaton.specs.Tables.{present, absent, target, word as edge_word}
use Rattle.automaton.proofs.TableLaws as packed
use Rattle.automaton.proofs.ExplorationLaws.{place_grows}
use Rattle.tables.specs.declared.Choice.{Choice}
use Rattle.tables.specs.Tables.{word}
use Rattle.tables.specs.Bounds.{Bounded}

module _ (found : List ℕ) (c : Choice) (b : Bounded flags c) where
  pub word_present : present flags (word found c) ≡ c.present
  word_present = packed.word_present flags c.present c.absent (place eqb c.target found) b.present_below b.absent_below

  pub word_absent : absent flags (word found c) ≡ c.absent
  word_absent = packed.word_absent flags c.present c.absent (place eqb c.target found) b.present_below b.absent_below

  pub word_target : target flags (word found c) ≡ place eqb c.target found
  word_target = packed.word_target flags c.present c.absent (place eqb c.target found) b.present_below b.absent_below

pub same_word : (found : List ℕ) (c e : Choice) → Bounded flags c → Bounded flags e → In c.target found → In e.target found
    → word found c ≡ word found e → c ≡ e
same_word found c e b d h k w = λ i. record { present = p i; absent = a i; target = t i }
  where
    p : c.present ≡ e.present
    p = sym (word_present found c b) ∙ ap (present flags) w ∙ word_present found e d

    a : c.absent ≡ e.absent
    a = sym (word_absent found c b) ∙ ap (absent flags) w ∙ word_absent found e d

    t : c.target ≡ e.target
    t =
        sym (place_found eqb eq_means c.target found 0 h).1
        ∙ ap (λ (x : ℕ). get_or found x 0) (sym (word_target found c b) ∙ ap (target flags) w ∙ word_target found e d)
        ∙ (place_found eqb eq_means e.target found 0 k).1

-- words stay as they are when more states are met
pub word_grows : (found more : List ℕ) (c : Choice) → Grows found more → In c.target found → word more c ≡ word found c
word_grows found more c g h = ap (edge_word flags c.present c.absent) (place_grows eqb eq_means c.target found more g h)

pub words_grow : (found more : List ℕ) (cs : List Choice) → Grows found more → All (λ c. In c.target found) cs → map (word more) cs ≡ map (word found) cs
words_grow found more [] g h = refl
words_grow found more (c ∷ cs) g h = λ i. word_grows found more c g h.0 i ∷ words_grow found more cs g h.1 i
