-- Comments as the code reads them.
use Rattle.std.proofs.Common.{◌≡◌, ℕ, ◌+◌, ◌≤◌, ◌<◌, List, [], ◌∷◌, ◌++◌, length, drop, get_or, true, false, Result, Ok, Err, refl, sym, ◌∙◌, ap, subst, arith, length-append, length-drop}
use Rattle.std.specs.Prelude.{◌==◌}
use Rattle.std.proofs.lemmas.List.{drop_more}
use Rattle.std.proofs.lemmas.Bool.{and_right, or_from}
use Rattle.pz_lexer.specs.declared.sorts.Sort.{Sort}
use Rattle.pz_lexer.specs.declared.sorts.Reason.{Reason}
use Rattle.pz_lexer.specs.declared.sorts.Found.{Found}
use Rattle.pz_lexer.specs.declared.sorts.Stop.{Stop}
use Rattle.pz_lexer.specs.Bytes.{begins}
use Rattle.pz_lexer.specs.Comments.{begins_pair, is_in_line}
use Rattle.pz_lexer.specs.devices.Reading.{Reads}
use Rattle.pz_lexer.specs.devices.Step.{front}
use Rattle.pz_lexer.specs.devices.SymbolStep.{symbol_step}
use Rattle.pz_lexer.specs.devices.CommentStep.{Closed, closed, open_end, longer, close_of, block_by, block_step, line_step}
use Rattle.pz_lexer.specs.devices.Gives.{Gives}
use Rattle.pz_lexer.proofs.CommentSteps.{close-here, close-later, block_right, line_right}
use Rattle.std.specs.List.{take_while}
use Rattle.pz_lexer.proofs.SymbolSteps.{symbol_right}
use Rattle.pz_lexer.proofs.FirstStep.{second_is}
use Rattle.pz_lexer.proofs.RunCounts.{run_cut}
use Rattle.pz_lexer.proofs.ReadSteps.{reads_from}

-- a `*/` sought in the text past so many bytes more
pub lengthen : List ℕ → Closed → Closed
lengthen [] c = c
lengthen (b ∷ bs) c = longer b (lengthen bs c)

lengthen_push : (body : List ℕ) (b : ℕ) (c : Closed) → lengthen body (longer b c) ≡ lengthen (body ++ b ∷ []) c
unfolding lengthen
lengthen_push [] b c = refl
lengthen_push (a ∷ body) b c = ap (longer a) (lengthen_push body b c)

lengthen_closed : (body rest : List ℕ) → lengthen body (closed [] rest) ≡ closed body rest
unfolding lengthen
lengthen_closed [] rest = refl
lengthen_closed (b ∷ body) rest = ap (longer b) (lengthen_closed body rest)

lengthen_open : (body : List ℕ) → lengthen body open_end ≡ open_end
unfolding lengthen
lengthen_open [] = refl
lengthen_open (b ∷ body) = ap (longer b) (lengthen_open body)

-- no `*/` ends before this place
pub record Sought (text : List ℕ) (at : ℕ) : Type 0 where
  pub body : List ℕ
  pub place : at ≡ length body + 2
  pub closes : close_of (drop 2 text) ≡ lengthen body (close_of (drop at text))

pub sought_first : (text : List ℕ) → Sought text 2
unfolding lengthen
sought_first text = record { body = []; place = refl; closes = refl }

module _ (text : List ℕ) (at : ℕ) (is : Sought text at) where
  pub sought_on : at < length text → begins_pair 42 47 (drop at text) ≡ false → Sought text (at + 1)
  sought_on within apart =
      let here = drop_more text at 0 within in
      let later : close_of (drop at text) ≡ longer (get_or text at 0) (close_of (drop (at + 1) text)) =
      ap close_of here ∙ close-later (get_or text at 0) (drop (at + 1) text) (ap (begins_pair 42 47) (sym here) ∙ apart) in
      record {
        body = is.body ++ get_or text at 0 ∷ [];
        place = omega (arith, is.place, length-append is.body (get_or text at 0 ∷ []));
        closes = is.closes ∙ ap (lengthen is.body) later ∙ lengthen_push is.body (get_or text at 0) (close_of (drop (at + 1) text));
      }

  found_closed : at < length text → begins_pair 42 47 (drop at text) ≡ true → (rest : List ℕ) × (close_of (drop 2 text) ≡ closed is.body rest)
  found_closed within pair =
      let here = drop_more text at 0 within in (
        drop 1 (drop (at + 1) text),
        is.closes
            ∙ ap (lengthen is.body) (ap close_of here ∙ close-here (get_or text at 0) (drop (at + 1) text) (ap (begins_pair 42 47) (sym here) ∙ pair))
            ∙ lengthen_closed is.body (drop 1 (drop (at + 1) text)),
      )

  pub closed_gives : at < length text → begins_pair 42 47 (drop at text) ≡ true → Gives (block_step (drop 2 text)) (Ok (record { sort = Sort.BlockComment; len = at + 2 }))
  closed_gives within pair =
      let found = found_closed within pair in
      subst (λ k. Gives (block_by k (drop 2 text)) (Ok (record { sort = Sort.BlockComment; len = at + 2 }))) (sym found.1)
      (omega (arith, is.place, length-append is.body (42 ∷ 47 ∷ [])), refl)

  open_found : length text ≤ at + 1 → close_of (drop 2 text) ≡ open_end
  open_found past = is.closes ∙ ap (lengthen is.body) (short (drop at text) (omega (arith, length-drop at text))) ∙ lengthen_open is.body
    where
      short : (t : List ℕ) → length t ≤ 1 → close_of t ≡ open_end
      short [] le = refl
      short (b ∷ []) le = close-later b [] (and_right _ _ refl)
      short (b ∷ c ∷ bs) le = absurd (omega arith)

  pub open_gives : length text ≤ at + 1 → Gives (block_step (drop 2 text)) (Err (Stop.Refused Reason.OpenComment 0))
  open_gives past =
      subst (λ k. Gives (block_by k (drop 2 text)) (Err (Stop.Refused Reason.OpenComment 0))) (sym (open_found past)) (refl, refl)

-- what is given for what follows a `/*` is read
pub block_reads : (text bs : List ℕ) (result : Result Found Stop) → text ≡ 47 ∷ 42 ∷ bs → Gives (block_step (drop 2 text)) result → Reads text result
block_reads text bs result is gives =
    let given : Gives (block_step bs) result = subst (λ t. Gives (block_step (drop 2 t)) result) is gives in
    subst (λ t. Reads t result) (sym is) (reads_from (47 ∷ 42 ∷ bs) (block_step bs) result (block_right bs) given)

-- a text that begins with a `/` and another byte
pair_text : (c : ℕ) (text rest : List ℕ) → begins (λ b. b == 47) text ≡ true → rest ≡ drop 1 text → begins (λ b. b == c) rest ≡ true → text ≡ 47 ∷ c ∷ drop 1 rest
pair_text c text rest first rest_is second = second_is 47 text first ∙ ap (λ t. 47 ∷ t) (sym rest_is ∙ second_is c rest second)

-- so `/*` begins it
pub block_text : (text rest : List ℕ) → begins (λ b. b == 47) text ≡ true → rest ≡ drop 1 text → begins (λ b. b == 42) rest ≡ true → (bs : List ℕ) × (text ≡ 47 ∷ 42 ∷ bs)
block_text text rest first rest_is second = (drop 1 rest, pair_text 42 text rest first rest_is second)

pub line_reads : (text rest : List ℕ) (n : ℕ) → begins (λ b. b == 47) text ≡ true → rest ≡ drop 1 text → begins (λ b. b == 47) rest ≡ true → n ≡ length (take_while is_in_line text) → Reads text (Ok (record { sort = Sort.LineComment; len = n }))
line_reads text rest n first rest_is second len =
    let is = pair_text 47 text rest first rest_is second in
    let len_is : n ≡ length (front is_in_line text) = (run_cut is_in_line text n len).3 in
    subst (λ t. Reads t (Ok (record { sort = Sort.LineComment; len = n }))) (sym is)
    (reads_from (47 ∷ 47 ∷ drop 1 rest) (line_step (drop 1 rest)) (Ok (record { sort = Sort.LineComment; len = n })) (line_right (drop 1 rest)) (len_is ∙ ap (λ t. length (front is_in_line t)) is, refl))

-- a `/` that begins no comment
pub slash_reads : (text rest : List ℕ) (result : Result Found Stop) → begins (λ b. b == 47) text ≡ true → rest ≡ drop 1 text → begins (λ b. b == 47) rest ≡ false → begins (λ b. b == 42) rest ≡ false → Gives (symbol_step text) result → Reads text result
slash_reads text rest result first rest_is line block gives =
    let is : text ≡ 47 ∷ rest = second_is 47 text first ∙ ap (λ t. 47 ∷ t) (sym rest_is) in
    subst (λ t. Reads t result) (sym is)
    (reads_from (47 ∷ rest) (symbol_step (47 ∷ rest)) result (symbol_right 47 rest refl (or_from _ _ line block)) (subst (λ t. Gives (symbol_step t) result) is gives))
