-- A rule's bytes written to the front of a buffer, entry by entry. Assumes nothing.
use Rattle.std.specs.Prelude.{ℕ, ◌+◌, ◌*◌, ◌≤◌, ◌<◌, ◌≡◌, refl, List, [], ◌∷◌, ◌++◌, length, take, drop}
use Rattle.std.proofs.Common.{add-one, arith, sym, ap, ◌∙◌, append_assoc}
use Rattle.std.proofs.lemmas.List.{drop-drop}
use Rattle.std.proofs.Math.Seq.{take-suc, take_at, drop_at, length-take-le, take_all}
use borrow.Rule.Slice.PartMut.{put_mid}
use Rattle.rule.specs.Numbering.{formula_at}
use Rattle.rule.specs.Coding.{code_of}
use Rattle.rule.specs.declared.Code.{Code}
use Rattle.rule.specs.declared.Formula.{Formula}
use Rattle.rule.specs.declared.Formula.TheVariants.{Flag}
use Rattle.calls.specs.ByteForm.{bytes_of, front}
use Rattle.calls.specs.FormLaws.{length_bytes}

bytes_append : (l m : List Formula) → bytes_of (l ++ m) ≡ bytes_of l ++ bytes_of m
bytes_append [] m = refl
bytes_append (e ∷ l) m = ap (λ b. (code_of e).kind ∷ (code_of e).first ∷ (code_of e).second ∷ b) (bytes_append l m)

-- bytes written behind those at the front
put_next : (p ys o : List ℕ) (n k : ℕ) → length p ≡ n → put_mid n k (p ++ drop n o) ys ≡ (p ++ ys) ++ drop (n + k) o
put_next p ys o n k e =
    ap (λ l. l ++ (ys ++ drop k (drop n (p ++ drop n o)))) (take_at p (drop n o) n e)
    ∙ ap (λ l. p ++ (ys ++ drop k l)) (drop_at p (drop n o) n e)
    ∙ ap (λ l. p ++ (ys ++ l)) (drop-drop k n o)
    ∙ sym (append_assoc p ys (drop (n + k) o))

-- the bytes of the first i entries are written
unfoldable pub written : List Formula → ℕ → List ℕ → List ℕ
written entries i o = front (bytes_of (take i entries)) o

pub written_none : (entries : List Formula) (o : List ℕ) → o ≡ written entries 0 o
unfolding written front
written_none entries o = refl

module _ (entries : List Formula) (o : List ℕ) (size : length entries ≡ 64) where
  length_to : (i : ℕ) → i ≤ 64 → length (bytes_of (take i entries)) ≡ 3 * i
  length_to i h = length_bytes (take i entries) ∙ ap (λ (n : ℕ). 3 * n) (length-take-le i entries (omega arith))

  pub written_more : (i k : ℕ) → i < 64 → k ≡ 3 → (code : Code) → code ≡ code_of (formula_at entries i)
      → put_mid (3 * i) k (written entries i o) (code.kind ∷ code.first ∷ code.second ∷ []) ≡ written entries (i + 1) o
  unfolding written front
  written_more i k h three code e =
      let p = bytes_of (take i entries) in
      let new : bytes_of (take (i + 1) entries) ≡ p ++ (code.kind ∷ code.first ∷ code.second ∷ []) =
      ap bytes_of (ap (λ (m : ℕ). take m entries) (add-one i) ∙ take-suc entries i (Flag 0) (omega arith)) ∙ bytes_append (take i entries) _
      ∙ ap (λ (c : Code). p ++ (c.kind ∷ c.first ∷ c.second ∷ [])) (sym e) in
      ap (λ (m : ℕ). put_mid (3 * i) k (p ++ drop m o) (code.kind ∷ code.first ∷ code.second ∷ [])) (length_to i (omega arith))
      ∙ put_next p _ o (3 * i) k (length_to i (omega arith))
      ∙ ap (λ l. l ++ drop (3 * i + k) o) (sym new)
      ∙ ap (λ (m : ℕ). bytes_of (take (i + 1) entries) ++ drop m o) (omega (arith, length_to (i + 1) (omega arith)))

  pub written_all : written entries 64 o ≡ front (bytes_of entries) o
  unfolding written
  written_all = ap (λ l. front (bytes_of l) o) (take_all 64 entries (omega arith))
