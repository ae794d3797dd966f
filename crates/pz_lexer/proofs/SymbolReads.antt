-- Symbols as the code reads them.
use Rattle.std.proofs.Common.{◌≡◌, ℕ, List, [], length, take, Option, Some, None, Result, Ok, Err, refl, sym, ◌∙◌, ap}
use Rattle.std.specs.Prelude.{option_map, min}
use Rattle.std.specs.Option.{ok_or}
use Rattle.pz_lexer.specs.declared.sorts.Reason.{Reason}
use Rattle.std.proofs.lemmas.List.{take_min, length-take}
use Rattle.pz_syntax.specs.declared.tokens.Symbol.{Symbol}
use Rattle.pz_lexer.specs.declared.sorts.Found.{Found}
use Rattle.pz_lexer.specs.declared.sorts.Stop.{Stop}
use Rattle.pz_lexer.specs.Spellings.{spelled}
use Rattle.pz_lexer.specs.devices.Step.{Step, stop}
use Rattle.pz_lexer.specs.devices.SymbolStep.{symbol_by}
use Rattle.pz_lexer.specs.devices.Gives.{Gives, found_symbol}

-- what a table says of the first so many bytes, or of fewer where the text is shorter
module _ (table : List (List ℕ × Symbol)) (text : List ℕ) (most len : ℕ) (spelling : List ℕ) where
  same_front : len ≡ min most (length text) → spelling ≡ take len text → (spelling ≡ take most text) × (len ≡ length (take most text))
  same_front len_is front = (front ∙ ap (λ n. take n text) len_is ∙ take_min most text, len_is ∙ sym (length-take most text))

  pub front_some : (symbol : Symbol) → len ≡ min most (length text) → spelling ≡ take len text → Some symbol ≡ spelled table spelling → Some (found_symbol len symbol) ≡ option_map (found_symbol (length (take most text))) (spelled table (take most text))
  front_some symbol len_is front is =
      let same = same_front len_is front in
      ap (λ n. Some (found_symbol n symbol)) same.1 ∙ ap (option_map (found_symbol (length (take most text)))) (is ∙ ap (spelled table) same.0)

  pub front_none : len ≡ min most (length text) → spelling ≡ take len text → None ≡ spelled table spelling → None ≡ option_map (found_symbol (length (take most text))) (spelled table (take most text))
  front_none len_is front is = ap (option_map (found_symbol (length (take most text)))) (is ∙ ap (spelled table) (same_front len_is front).0)

pub some_gives : (o : Option Symbol) (n : ℕ) (text : List ℕ) (shorter : Step) (found : Found) → Some found ≡ option_map (found_symbol (length (take n text))) o → Gives (symbol_by o n text shorter) (Ok found)
some_gives None n text shorter found is = absurd (cc)
some_gives (Some symbol) n text shorter found is =
    let same : found ≡ found_symbol (length (take n text)) symbol = cc in
    (ap (λ f. f.len) same, ap (λ f. f.sort) same)

pub none_gives : (o : Option Symbol) (n : ℕ) (text : List ℕ) (shorter : Step) (result : Result Found Stop) → None ≡ option_map (found_symbol (length (take n text))) o → Gives shorter result → Gives (symbol_by o n text shorter) result
none_gives None n text shorter result is gives = gives
none_gives (Some symbol) n text shorter result is gives = absurd (cc)

pub last_gives : (o : Option Symbol) (n : ℕ) (text : List ℕ) (found : Option Found) (result : Result Found Stop) → found ≡ option_map (found_symbol (length (take n text))) o → result ≡ ok_or found (Stop.Refused Reason.BadByte 0) → Gives (symbol_by o n text (stop [] text Reason.BadByte)) result
last_gives None n text found result is result_is =
    let same : result ≡ Err (Stop.Refused Reason.BadByte 0) = result_is ∙ ap (λ f. ok_or f (Stop.Refused Reason.BadByte 0)) is in
    rw same (refl, refl)
last_gives (Some symbol) n text found result is result_is =
    let same : result ≡ Ok (found_symbol (length (take n text)) symbol) = result_is ∙ ap (λ f. ok_or f (Stop.Refused Reason.BadByte 0)) is in
    rw same (refl, refl)
