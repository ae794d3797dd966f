-- Strings and characters as the code reads them.
use Rattle.std.proofs.Common.{◌≡◌, ◌⊎◌, ⊎_elim, ℕ, ◌+◌, ◌≤◌, ◌<◌, List, [], ◌∷◌, ◌++◌, length, take, drop, true, false, Result, Ok, Err, refl, sym, ◌∙◌, ap, subst, append_assoc, arith, length-append, length-drop}
use Rattle.std.specs.Prelude.{◌==◌}
use Rattle.std.proofs.lemmas.List.{take_at, drop_at, length-take-le, drop-drop, append-nil, take-append-drop}
use Rattle.pz_syntax.specs.declared.tokens.TokenKind.{TokenKind}
use Rattle.pz_lexer.specs.declared.items.Inside.{Inside as Seen}
use Rattle.pz_lexer.specs.declared.sorts.Sort.{Sort}
use Rattle.pz_lexer.specs.declared.sorts.Reason.{Reason}
use Rattle.pz_lexer.specs.declared.sorts.Found.{Found}
use Rattle.pz_lexer.specs.declared.sorts.Stop.{Stop}
use Rattle.pz_lexer.specs.Bytes.{begins}
use Rattle.pz_lexer.specs.Quoted.{IsItem, AreItems, none, more}
use Rattle.pz_lexer.specs.Pieces.{a_string}
use Rattle.pz_lexer.specs.Refusals.{NoItem, IsOpenString, cut_string, no_escape_in_string, string}
use Rattle.pz_lexer.specs.devices.Reading.{Reads, IsFound, StopsAt}
use Rattle.pz_lexer.specs.devices.QuotedStep.{Inside, item, no_escape, closing, cut_off, inside_at, character_by, character_end, character_step}
use Rattle.pz_lexer.specs.devices.Gives.{Gives, Sees}
use Rattle.pz_lexer.proofs.FirstStep.{second_is}
use Rattle.pz_lexer.proofs.QuotedSteps.{InsideIs, inside_is, item_some, character_right}
use Rattle.pz_lexer.proofs.ReadSteps.{reads_from, found_from, stop_from}

-- What is seen inside quotes, in the words of the definition.
abbrev pub SeenIs : ℕ → List ℕ → Seen → Type 0
SeenIs quote all (Seen.Item value len) = (0 < len) × (len ≤ length all) × IsItem quote (take len all) value
SeenIs quote all Seen.NoEscape = InsideIs quote all no_escape
SeenIs quote all Seen.Closing = InsideIs quote all closing
SeenIs quote all Seen.CutOff = InsideIs quote all cut_off

seen_from : (quote : ℕ) (all : List ℕ) (k : Inside) (seen : Seen) → InsideIs quote all k → Sees k seen → SeenIs quote all seen
seen_from quote all (item text value rest) (Seen.Item v len) is sees = (
  omega (arith, sees.1, item_some is.1),
  omega (arith, sees.1, ap length is.0, length-append text rest),
  subst (λ t. IsItem quote t v) (sym (ap (take len) (sym is.0) ∙ take_at text rest len (sym sees.1))) (subst (λ x. IsItem quote text x) (sym sees.0) is.1),
)
seen_from quote all (item text value rest) Seen.NoEscape is sees = absurd sees
seen_from quote all (item text value rest) Seen.Closing is sees = absurd sees
seen_from quote all (item text value rest) Seen.CutOff is sees = absurd sees
seen_from quote all no_escape (Seen.Item v len) is sees = absurd sees
seen_from quote all no_escape Seen.NoEscape is sees = is
seen_from quote all no_escape Seen.Closing is sees = absurd sees
seen_from quote all no_escape Seen.CutOff is sees = absurd sees
seen_from quote all closing (Seen.Item v len) is sees = absurd sees
seen_from quote all closing Seen.NoEscape is sees = absurd sees
seen_from quote all closing Seen.Closing is sees = is
seen_from quote all closing Seen.CutOff is sees = absurd sees
seen_from quote all cut_off (Seen.Item v len) is sees = absurd sees
seen_from quote all cut_off Seen.NoEscape is sees = absurd sees
seen_from quote all cut_off Seen.Closing is sees = absurd sees
seen_from quote all cut_off Seen.CutOff is sees = is

pub seen_is : (quote : ℕ) (all : List ℕ) (seen : Seen) → Sees (inside_at quote all) seen → SeenIs quote all seen
seen_is quote all seen sees = seen_from quote all (inside_at quote all) seen (inside_is quote all) sees

items_push : (quote : ℕ) (text values one : List ℕ) (value : ℕ) → AreItems quote text values → IsItem quote one value → AreItems quote (text ++ one) (values ++ value ∷ [])
items_push quote text values one value none is = subst (λ t. AreItems quote t (value ∷ [])) (append-nil one) (more is none)
items_push quote text values one value (more {item = first} {text = others} {v = v} {vs = vs} this are) is =
    subst (λ t. AreItems quote t (v ∷ (vs ++ value ∷ []))) (sym (append_assoc first others one)) (more this (items_push quote others vs one value are is))

-- a `"` and items, up to this place
pub record ItemsTo (text : List ℕ) (at : ℕ) (values : List ℕ) : Type 0 where
  pub inside : List ℕ
  pub place : at ≡ length inside + 1
  pub spelling : text ≡ 34 ∷ inside ++ drop at text
  pub items : AreItems 34 inside values

pub items_first : (text : List ℕ) → begins (λ b. b == 34) text ≡ true → ItemsTo text 1 []
items_first text first = record { inside = []; place = refl; spelling = second_is 34 text first; items = none }

module _ (text : List ℕ) (at : ℕ) (values : List ℕ) (is : ItemsTo text at values) where
  pub items_on : (value len : ℕ) → SeenIs 34 (drop at text) (Seen.Item value len) → (at + len ≤ length text) × ItemsTo text (at + len) (values ++ value ∷ [])
  items_on value len seen =
      let one = take len (drop at text) in
      let cut : drop at text ≡ one ++ drop (at + len) text = sym (take-append-drop len (drop at text)) ∙ ap (λ t. one ++ t) (drop-drop len at text) in (
        omega (arith, seen.1, length-drop at text),
        record {
          inside = is.inside ++ one;
          place = omega (arith, is.place, length-append is.inside one, length-take-le len (drop at text) seen.1);
          spelling = is.spelling ∙ ap (λ t. 34 ∷ is.inside ++ t) cut ∙ ap (λ t. 34 ∷ t) (sym (append_assoc is.inside one (drop (at + len) text)));
          items = items_push 34 is.inside values one value is.items seen.2;
        },
      )

  pub string_closed : SeenIs 34 (drop at text) Seen.Closing → IsFound text (record { sort = Sort.Token (TokenKind.Str values); len = at + 1 })
  string_closed seen =
      let rest = seen.0 in
      let whole : (34 ∷ is.inside ++ 34 ∷ []) ++ rest ≡ text =
      ap (λ t. 34 ∷ t) (append_assoc is.inside (34 ∷ []) rest ∙ ap (λ t. is.inside ++ t) (sym seen.1)) ∙ sym is.spelling in
      found_from text (34 ∷ is.inside ++ 34 ∷ []) rest (Sort.Token (TokenKind.Str values)) _
      (whole, tt, a_string (record { inside = is.inside; spelling = refl; items = is.items }))
      (omega (arith, is.place, length-append is.inside (34 ∷ [])))
      refl

  pub string_bad_escape : SeenIs 34 (drop at text) Seen.NoEscape → StopsAt text (Stop.Refused Reason.BadByte at)
  string_bad_escape seen =
      let whole : (34 ∷ is.inside) ++ 92 ∷ seen.0 ≡ text = ap (λ t. 34 ∷ is.inside ++ t) (sym seen.1) ∙ sym is.spelling in
      stop_from text (34 ∷ is.inside) (92 ∷ seen.0) Reason.BadByte at
      (whole, no_escape_in_string is.items (subst (NoItem 34) seen.1 seen.2))
      (omega (arith, is.place))

  pub string_cut_off : SeenIs 34 (drop at text) Seen.CutOff → StopsAt text (Stop.Refused Reason.OpenString 0)
  string_cut_off seen =
      stop_from text [] text Reason.OpenString 0
      (refl, string (subst IsOpenString (sym is.spelling) (cut_string is.inside values (drop at text) is.items seen)))
      refl

-- Characters.

pub character_closed : (bs : List ℕ) (value len : ℕ) (k : Inside) → InsideIs 39 bs k → Sees k (Seen.Item value len) → begins (λ b. b == 39) (drop len bs) ≡ true → Gives (character_by k bs) (Ok (record { sort = Sort.Token (TokenKind.Char value); len = len + 2 }))
character_closed bs value len (item text v rest) is sees ends =
    let after : drop len bs ≡ rest = ap (drop len) (sym is.0) ∙ drop_at text rest len (sym sees.1) in
    let found : Found = record { sort = Sort.Token (TokenKind.Char value); len = len + 2 } in
    subst (λ t. Gives (character_end t text v rest) (Ok found)) (sym (ap (begins (λ b. b == 39)) (sym after) ∙ ends))
    (omega (arith, sees.1, length-append text (39 ∷ [])), ap (λ x. Sort.Token (TokenKind.Char x)) sees.0)
character_closed bs value len no_escape is sees ends = absurd sees
character_closed bs value len closing is sees ends = absurd sees
character_closed bs value len cut_off is sees ends = absurd sees

pub character_not_closed : (bs : List ℕ) (value len : ℕ) (k : Inside) → InsideIs 39 bs k → Sees k (Seen.Item value len) → begins (λ b. b == 39) (drop len bs) ≡ false → Gives (character_by k bs) (Err (Stop.Refused Reason.OpenString 0))
character_not_closed bs value len (item text v rest) is sees ends =
    let after : drop len bs ≡ rest = ap (drop len) (sym is.0) ∙ drop_at text rest len (sym sees.1) in
    subst (λ t. Gives (character_end t text v rest) (Err (Stop.Refused Reason.OpenString 0))) (sym (ap (begins (λ b. b == 39)) (sym after) ∙ ends)) (refl, refl)
character_not_closed bs value len no_escape is sees ends = absurd sees
character_not_closed bs value len closing is sees ends = absurd sees
character_not_closed bs value len cut_off is sees ends = absurd sees

pub character_bad_escape : (bs : List ℕ) (k : Inside) → Sees k Seen.NoEscape → Gives (character_by k bs) (Err (Stop.Refused Reason.BadByte 1))
character_bad_escape bs (item text v rest) sees = absurd sees
character_bad_escape bs no_escape sees = (refl, refl)
character_bad_escape bs closing sees = absurd sees
character_bad_escape bs cut_off sees = absurd sees

pub character_empty : (bs : List ℕ) (k : Inside) (seen : Seen) → (seen ≡ Seen.Closing) ⊎ (seen ≡ Seen.CutOff) → Sees k seen → Gives (character_by k bs) (Err (Stop.Refused Reason.OpenString 0))
character_empty bs (item text v rest) seen is sees = ⊎_elim (λ e. absurd (subst (Sees (item text v rest)) e sees)) (λ e. absurd (subst (Sees (item text v rest)) e sees)) is
character_empty bs no_escape seen is sees = ⊎_elim (λ e. absurd (subst (Sees no_escape) e sees)) (λ e. absurd (subst (Sees no_escape) e sees)) is
character_empty bs closing seen is sees = (refl, refl)
character_empty bs cut_off seen is sees = (refl, refl)

-- what is given for what follows a `'` is read
pub character_reads : (text bs : List ℕ) (result : Result Found Stop) → begins (λ b. b == 39) text ≡ true → bs ≡ drop 1 text → Gives (character_step bs) result → Reads text result
character_reads text bs result first bs_is gives =
    subst (λ t. Reads t result) (sym (second_is 39 text first ∙ ap (λ t. 39 ∷ t) (sym bs_is)))
    (reads_from (39 ∷ bs) (character_step bs) result (character_right bs) gives)
