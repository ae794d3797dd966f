-- Quotes begin strings and characters.
use Rattle.std.proofs.Common.{◌≡◌, ℕ, ◌+◌, ◌*◌, ◌≤◌, ◌<◌, List, [], ◌∷◌, ◌++◌, length, Bool, true, false, Option, Some, None, refl, sym, ◌∙◌, ap, ap₂, subst, append_assoc, arith, length-append}
use Rattle.std.specs.Prelude.{◌==◌, not, drop}
use Rattle.std.proofs.lemmas.Bool.{false≢true, and_parts, and_from, not-true, not_from_false, eqb-true, cond_both, not_from_true}
use Rattle.pz_syntax.specs.declared.tokens.TokenKind.{TokenKind}
use Rattle.pz_lexer.specs.Bytes.{begins}
use Rattle.pz_lexer.specs.Comments.{is_in_line}
use Rattle.pz_lexer.specs.Quoted.{is_plain, escaped, hex_value, IsItem, plain, escape, hex, AreItems, none, more, IsString, IsCharacter}
use Rattle.pz_lexer.specs.declared.sorts.Sort.{Sort}
use Rattle.pz_lexer.specs.Pieces.{a_string, a_character}
use Rattle.pz_lexer.specs.declared.sorts.Reason.{Reason}
use Rattle.pz_lexer.specs.Refusals.{NoItem, IsOpenString, cut_string, cut_character, no_item, not_closed, no_escape_in_string, no_escape_in_character, string}
use Rattle.pz_lexer.specs.devices.Step.{piece, stop}
use Rattle.pz_lexer.specs.devices.QuotedStep.{Inside, item, no_escape, closing, cut_off, hex_by, hex_at, escape_by, escape_at, inside_at, Items, items, more_items, items_by, items_at, string_end, string_by, string_step, character_end, character_by, character_step}
use Rattle.pz_lexer.specs.devices.Twin.{first_step}
use Rattle.pz_lexer.proofs.Steps.{IsRight}

-- The relation gives the item that is found.

plain_found : (quote b : ℕ) (rest : List ℕ) → is_plain quote b ≡ true → inside_at quote (b ∷ rest) ≡ item (b ∷ []) b rest
plain_found quote b rest e =
    let outer = and_parts _ _ e in
    let inner = and_parts _ _ outer.0 in
    let lf : (b == 10) ≡ false = not-true _ inner.0 in
    let backslash : (b == 92) ≡ false = not-true _ inner.1 in
    let closes : (b == quote) ≡ false = not-true _ outer.1 in
    rw (lf, backslash, closes) refl

escape_found : (b v : ℕ) (rest : List ℕ) → escaped b ≡ Some v → escape_at (b ∷ rest) ≡ item (92 ∷ b ∷ []) v rest
escape_found b v rest e = ap (λ o. escape_by o b rest) e

hex_found : (h l m n : ℕ) (rest : List ℕ) → hex_value h ≡ Some m → hex_value l ≡ Some n → escape_at (120 ∷ h ∷ l ∷ rest) ≡ item (92 ∷ 120 ∷ h ∷ l ∷ []) (16 * m + n) rest
hex_found h l m n rest e f = ap₂ (λ x y. hex_by x y h l rest) e f

item_found : (quote : ℕ) (text : List ℕ) (value : ℕ) (rest : List ℕ) → IsItem quote text value → inside_at quote (text ++ rest) ≡ item text value rest
item_found quote text value rest (plain {b = b} e) = plain_found quote b rest e
item_found quote text value rest (escape {b = b} {v = v} e) = escape_found b v rest e
item_found quote text value rest (hex {h = h} {l = l} {m = m} {n = n} e f) = hex_found h l m n rest e f

-- What is found is so.

abbrev pub InsideIs : ℕ → List ℕ → Inside → Type 0
InsideIs quote all (item text value rest) = (text ++ rest ≡ all) × IsItem quote text value
InsideIs quote all no_escape = (rest : List ℕ) × (all ≡ 92 ∷ rest) × NoItem quote all
InsideIs quote all closing = (rest : List ℕ) × (all ≡ quote ∷ rest)
InsideIs quote all cut_off = begins is_in_line all ≡ false

-- an escape is an item or none
abbrev EscapeIs : ℕ → List ℕ → Inside → Type 0
EscapeIs quote all (item text value rest) = (text ++ rest ≡ 92 ∷ all) × IsItem quote text value
EscapeIs quote all no_escape = Unit {0}
EscapeIs quote all closing = ⊥
EscapeIs quote all cut_off = ⊥

hex_is : (quote : ℕ) (bs : List ℕ) → EscapeIs quote (120 ∷ bs) (hex_at bs)
hex_is quote [] = tt
hex_is quote (h ∷ []) = tt
hex_is quote (h ∷ l ∷ rest) = by (hex_value h) (hex_value l) refl refl
  where
    by : (x y : Option ℕ) → hex_value h ≡ x → hex_value l ≡ y → EscapeIs quote (120 ∷ h ∷ l ∷ rest) (hex_by x y h l rest)
    by (Some m) (Some n) e f = (refl, hex e f)
    by (Some m) None e f = tt
    by None y e f = tt

escape_is : (quote : ℕ) (bs : List ℕ) → EscapeIs quote bs (escape_at bs)
escape_is quote [] = tt
escape_is quote (b ∷ rest) = by (escaped b) refl
  where
    by_x : (t : Bool) → (b == 120) ≡ t → EscapeIs quote (b ∷ rest) (elim t [ true ↦ hex_at rest | false ↦ no_escape ])
    by_x true e = rw (eqb-true b 120 e) (hex_is quote rest)
    by_x false e = tt

    by : (o : Option ℕ) → escaped b ≡ o → EscapeIs quote (b ∷ rest) (escape_by o b rest)
    by (Some v) e = (refl, escape e)
    by None e = by_x (b == 120) refl

-- an escape that is none is no item, since an item would be found
no_item_from : (quote : ℕ) (all : List ℕ) → inside_at quote all ≡ no_escape → NoItem quote all
no_item_from quote all e text rest value is spelled_so =
    let found = item_found quote text value rest is in
    let same : inside_at quote all ≡ item text value rest = ap (inside_at quote) spelled_so ∙ found in
    cc

backslash_is : (quote : ℕ) (bs : List ℕ) (k : Inside) → escape_at bs ≡ k → EscapeIs quote bs k → InsideIs quote (92 ∷ bs) k
backslash_is quote bs (item text value rest) e is = is
backslash_is quote bs no_escape e is = (bs, refl, no_item_from quote (92 ∷ bs) e)
backslash_is quote bs closing e is = absurd is
backslash_is quote bs cut_off e is = absurd is

pub inside_is : (quote : ℕ) (all : List ℕ) → InsideIs quote all (inside_at quote all)
inside_is quote [] = refl
inside_is quote (b ∷ bs) =
    cond_both (b == 10) _ _ (InsideIs quote (b ∷ bs)) (λ e. not_from_true _ e) (λ lf.
    cond_both (b == 92) _ _ (InsideIs quote (b ∷ bs)) (λ e. rw (eqb-true b 92 e) (backslash_is quote bs (escape_at bs) refl (escape_is quote bs))) (λ backslash.
    cond_both (b == quote) _ _ (InsideIs quote (b ∷ bs)) (λ e. (bs, rw (eqb-true b quote e) refl)) (λ closes.
    (refl, plain (and_from _ _ (and_from _ _ (not_from_false _ lf) (not_from_false _ backslash)) (not_from_false _ closes))))))

-- Many items.

abbrev pub NotItem : Inside → Type 0
NotItem (item text value rest) = ⊥
NotItem no_escape = Unit {0}
NotItem closing = Unit {0}
NotItem cut_off = Unit {0}

items_stop : (bound : List ℕ) (quote : ℕ) (all : List ℕ) → NotItem (inside_at quote all) → items_at bound quote all ≡ items [] [] all
items_stop [] quote all stops = refl
items_stop (_ ∷ bound) quote all stops = by (inside_at quote all) stops
  where
    by : (k : Inside) → NotItem k → items_by k all (items_at bound quote) ≡ items [] [] all
    by (item text value rest) stops = absurd stops
    by no_escape stops = refl
    by closing stops = refl
    by cut_off stops = refl

pub item_some : {quote : ℕ} {text : List ℕ} {value : ℕ} → IsItem quote text value → 0 < length text
item_some (plain e) = omega arith
item_some (escape e) = omega arith
item_some (hex e f) = omega arith

items_found : (quote : ℕ) (text values rest bound : List ℕ) → AreItems quote text values → NotItem (inside_at quote rest) → length text ≤ length bound → items_at bound quote (text ++ rest) ≡ items text values rest
items_found quote text values rest bound none stops fits = items_stop bound quote rest stops
items_found quote text values rest [] (more {item = one} {text = others} is are) stops fits = absurd (omega (arith, item_some is, length-append one others))
items_found quote text values rest (_ ∷ bound) (more {item = one} {text = others} {v = v} {vs = vs} is are) stops fits =
    ap (λ t. items_by (inside_at quote t) t (items_at bound quote)) (append_assoc one others rest)
    ∙ ap (λ k. items_by k (one ++ (others ++ rest)) (items_at bound quote)) (item_found quote one v (others ++ rest) is)
    ∙ ap (more_items one v) (items_found quote others vs rest bound are stops (omega (arith, item_some is, length-append one others)))

abbrev ItemsAre : List ℕ → ℕ → List ℕ → Items → Type 0
ItemsAre bound quote all (items text values rest) = (text ++ rest ≡ all) × AreItems quote text values × (length all ≤ length bound → NotItem (inside_at quote rest))

more_are : (b : ℕ) (bound : List ℕ) (quote : ℕ) (one rest : List ℕ) (v : ℕ) (k : Items) → IsItem quote one v → ItemsAre bound quote rest k → ItemsAre (b ∷ bound) quote (one ++ rest) (more_items one v k)
more_are b bound quote one rest v (items text values after) is are =
    (append_assoc one text after ∙ ap (λ t. one ++ t) are.0, more is are.1, λ fits. are.2 (omega (arith, item_some is, length-append one rest, fits)))

items_are : (bound : List ℕ) (quote : ℕ) (all : List ℕ) → ItemsAre bound quote all (items_at bound quote all)
items_are [] quote [] = (refl, none, λ fits. tt)
items_are [] quote (b ∷ bs) = (refl, none, λ fits. absurd (omega (arith, fits)))
items_are (b ∷ bound) quote all = by (inside_at quote all) refl (inside_is quote all) (items_are bound quote)
  where
    by : (k : Inside) → inside_at quote all ≡ k → InsideIs quote all k → ((rest : List ℕ) → ItemsAre bound quote rest (items_at bound quote rest)) → ItemsAre (b ∷ bound) quote all (items_by k all (items_at bound quote))
    by (item text value rest) e is others = subst (λ t. ItemsAre (b ∷ bound) quote t (more_items text value (items_at bound quote rest))) is.0 (more_are b bound quote text rest value (items_at bound quote rest) is.1 (others rest))
    by no_escape e is others = (refl, none, λ fits. subst NotItem (sym e) tt)
    by closing e is others = (refl, none, λ fits. subst NotItem (sym e) tt)
    by cut_off e is others = (refl, none, λ fits. subst NotItem (sym e) tt)

-- What stands behind the items.

cut_found : (quote : ℕ) (rest : List ℕ) → begins is_in_line rest ≡ false → inside_at quote rest ≡ cut_off
cut_found quote [] e = refl
cut_found quote (b ∷ bs) e = let lf : (b == 10) ≡ true = lf_from (b == 10) e in rw lf refl
  where
    lf_from : (t : Bool) → not t ≡ false → t ≡ true
    lf_from true e = refl
    lf_from false e = sym e

no_escape_found : (quote : ℕ) (rest : List ℕ) → NoItem quote (92 ∷ rest) → escape_at rest ≡ no_escape
no_escape_found quote rest none_there = by (escape_at rest) (escape_is quote rest)
  where
    by : (k : Inside) → EscapeIs quote rest k → k ≡ no_escape
    by (item text value after) is = absurd (none_there text after value is.1 (sym is.0))
    by no_escape is = refl
    by closing is = absurd is
    by cut_off is = absurd is

-- a string's items and what follows them
string_items : (inside values rest : List ℕ) → AreItems 34 inside values → NotItem (inside_at 34 rest) → string_step (inside ++ rest) ≡ string_end (inside_at 34 rest) inside values rest
string_items inside values rest are stops = ap string_by (items_found 34 inside values rest (inside ++ rest) are stops (omega (arith, length-append inside rest)))

pub string_found : (text values rest : List ℕ) → IsString text values → first_step (text ++ rest) ≡ piece text (Sort.Token (TokenKind.Str values)) rest
string_found text values rest s =
    ap (λ t. first_step (t ++ rest)) s.spelling
    ∙ ap string_step (append_assoc s.inside (34 ∷ []) rest)
    ∙ string_items s.inside values (34 ∷ rest) s.items tt
    ∙ ap (λ t. piece t (Sort.Token (TokenKind.Str values)) rest) (sym s.spelling)

pub character_found : (text : List ℕ) (value : ℕ) (rest : List ℕ) → IsCharacter text value → first_step (text ++ rest) ≡ piece text (Sort.Token (TokenKind.Char value)) rest
character_found text value rest c =
    ap (λ t. first_step (t ++ rest)) c.spelling
    ∙ ap character_step (append_assoc c.inside (39 ∷ []) rest)
    ∙ ap (λ k. character_by k (c.inside ++ 39 ∷ rest)) (item_found 39 c.inside value (39 ∷ rest) c.item)
    ∙ ap (λ t. piece t (Sort.Token (TokenKind.Char value)) rest) (sym c.spelling)

pub open_string_found : (text : List ℕ) → IsOpenString text → first_step text ≡ stop [] text Reason.OpenString
open_string_found text (cut_string inside values rest are ends) =
    let found = cut_found 34 rest ends in
    string_items inside values rest are (subst NotItem (sym found) tt)
    ∙ ap (λ k. string_end k inside values rest) found
open_string_found text (cut_character {rest = rest} ends) = ap (λ k. character_by k rest) (cut_found 39 rest ends)
open_string_found text (no_item {rest = rest}) = refl
open_string_found text (not_closed one rest value is ends) =
    ap (λ k. character_by k (one ++ rest)) (item_found 39 one value rest is)
    ∙ ap (λ t. character_end t one value rest) ends

pub string_escape_found : (inside values rest : List ℕ) → AreItems 34 inside values → NoItem 34 (92 ∷ rest) → first_step (34 ∷ inside ++ 92 ∷ rest) ≡ stop (34 ∷ inside) (92 ∷ rest) Reason.BadByte
string_escape_found inside values rest are none_there =
    let found : inside_at 34 (92 ∷ rest) ≡ no_escape = no_escape_found 34 rest none_there in
    string_items inside values (92 ∷ rest) are (subst NotItem (sym found) tt)
    ∙ ap (λ k. string_end k inside values (92 ∷ rest)) found

pub character_escape_found : (rest : List ℕ) → NoItem 39 (92 ∷ rest) → first_step (39 ∷ 92 ∷ rest) ≡ stop (39 ∷ []) (92 ∷ rest) Reason.BadByte
character_escape_found rest none_there = ap (λ k. character_by k (92 ∷ rest)) (no_escape_found 39 rest none_there)

-- What is found is so.

pub string_right : (bs : List ℕ) → IsRight (34 ∷ bs) (string_step bs)
string_right bs = by (items_at bs 34 bs) (items_are bs 34 bs)
  where
    end : (text values rest : List ℕ) (k : Inside) → text ++ rest ≡ bs → AreItems 34 text values → NotItem k → InsideIs 34 rest k → IsRight (34 ∷ bs) (string_end k text values rest)
    end text values rest (item one value after) same are stops is = absurd stops
    end text values rest no_escape same are stops is =
        (ap (λ t. 34 ∷ t) same, rw is.1 (no_escape_in_string are (rw is.1 at is.2)))
    end text values rest closing same are stops is = (
      ap (λ t. 34 ∷ t) (append_assoc text (34 ∷ []) (drop 1 rest) ∙ ap (λ t. text ++ 34 ∷ drop 1 t) is.1 ∙ ap (λ t. text ++ t) (sym is.1) ∙ same),
      tt,
      a_string (record { inside = text; spelling = refl; items = are }),
    )
    end text values rest cut_off same are stops is =
        (ap (λ t. 34 ∷ t) same, string (cut_string text values rest are is))

    by : (k : Items) → ItemsAre bs 34 bs k → IsRight (34 ∷ bs) (string_by k)
    by (items text values rest) are = end text values rest (inside_at 34 rest) are.0 are.1 (are.2 (omega arith)) (inside_is 34 rest)

pub character_right : (bs : List ℕ) → IsRight (39 ∷ bs) (character_step bs)
character_right bs = by (inside_at 39 bs) (inside_is 39 bs)
  where
    end : (text : List ℕ) (value : ℕ) (rest : List ℕ) (t : Bool) → text ++ rest ≡ bs → IsItem 39 text value → begins (λ b. b == 39) rest ≡ t → IsRight (39 ∷ bs) (character_end t text value rest)
    end text value [] true same is e = absurd (false≢true e)
    end text value (b ∷ rest) true same is e = (
      ap (λ t. 39 ∷ t) (append_assoc text (39 ∷ []) rest ∙ ap (λ x. text ++ x ∷ rest) (sym (eqb-true b 39 e)) ∙ same),
      tt,
      a_character (record { inside = text; spelling = refl; item = is }),
    )
    end text value rest false same is e = (ap (λ t. 39 ∷ t) same, string (not_closed text rest value is e))

    by : (k : Inside) → InsideIs 39 bs k → IsRight (39 ∷ bs) (character_by k bs)
    by (item text value rest) is = end text value rest (begins (λ b. b == 39) rest) is.0 is.1 refl
    by no_escape is = (refl, rw is.1 (no_escape_in_character (rw is.1 at is.2)))
    by closing is = (refl, rw is.1 (string no_item))
    by cut_off is = (refl, string (cut_character is))
