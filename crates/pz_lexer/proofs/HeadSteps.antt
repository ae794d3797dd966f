-- What is known of the tokens that follow, one token further to the front.
use Rattle.std.proofs.Common.{◌≡◌, ℕ, zero, suc, List, [], ◌∷◌, ◌++◌, length, Bool, true, false, Option, Some, None, refl, sym, ◌∙◌, ap, arith, length-append}
use Rattle.std.specs.Prelude.{unwrap_or}
use Rattle.std.specs.Option.{option_to_list}
use Rattle.std.proofs.lemmas.List.{same_from_push, append-nil}
use Rattle.pz_syntax.specs.Heads.{Role, name, colon, opening, closing, other, behind_match, goes_on}
use Rattle.pz_lexer.specs.declared.heads.Role.{Role as Seen}
use Rattle.pz_lexer.specs.declared.heads.Following.{Following}
use Rattle.pz_lexer.specs.devices.Marking.{rest_of, closings, backwards, TakesIn}

-- the answer at a place, and no past the end
at : List Bool → ℕ → Bool
at [] n = false
at (x ∷ xs) zero = x
at (x ∷ xs) (suc n) = at xs n

at-rest : (xs : List Bool) (n : ℕ) → at xs (suc n) ≡ at (rest_of xs) n
unfolding at
at-rest [] n = refl
at-rest (x ∷ xs) n = refl

-- the list of `)` without a match answers what stands behind a match
behind-at : (n : ℕ) (xs : List Role) → goes_on (behind_match n xs) ≡ at (closings xs) n
unfolding at
behind-at n [] = refl
behind-at n (opening ∷ xs) = behind-at (suc n) xs ∙ at-rest (closings xs) n
behind-at zero (closing ∷ xs) = refl
behind-at (suc n) (closing ∷ xs) = behind-at n xs
behind-at n (name ∷ xs) = behind-at n xs
behind-at n (colon ∷ xs) = behind-at n xs
behind-at n (other ∷ xs) = behind-at n xs

-- what taking the last off the stack gives
popped : (cs items left : List Bool) (top : Option Bool) → items ≡ left ++ option_to_list top → (top ≡ None → items ≡ []) → items ≡ backwards cs → (left ≡ backwards (rest_of cs)) × (unwrap_or top false ≡ at cs 0)
unfolding at
popped [] items left None split empty is = (sym (append-nil left) ∙ sym split ∙ is, refl)
popped [] items left (Some x) split empty is = absurd (omega (arith, ap length (sym is ∙ split), length-append left (x ∷ [])))
popped (c ∷ cs) items left None split empty is = absurd (omega (arith, ap length (sym (empty refl) ∙ is), length-append (backwards cs) (c ∷ [])))
popped (c ∷ cs) items left (Some x) split empty is = same_from_push left (backwards cs) x c (sym split ∙ is)

-- a `(` is taken in
pub takes_opening : (old new : Following) (top : Option Bool) → new.goes_on ≡ true → new.makes_head ≡ unwrap_or top false → old.closings.items ≡ new.closings.items ++ option_to_list top → (top ≡ None → old.closings.items ≡ []) → TakesIn old new Seen.Opening
takes_opening old new top next head split empty roles f =
    let pop = popped (closings roles) old.closings.items new.closings.items top split empty f.stack in
    record { next = next; head = head ∙ pop.1 ∙ sym (behind-at 0 roles); stack = pop.0 }
