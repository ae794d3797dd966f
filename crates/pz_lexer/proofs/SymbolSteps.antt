-- Symbols, and bytes that begin no piece.
use Rattle.std.proofs.Common.{◌≡◌, ◌⊎◌, inl, inr, ⊎_elim, ℕ, zero, suc, ◌≤◌, ◌<◌, List, [], ◌∷◌, ◌++◌, length, Bool, true, false, Option, Some, None, refl, sym, ◌∙◌, ap, ap₂, subst, arith, length-append, length-take}
use Rattle.std.specs.Prelude.{◌||◌, ◌&&◌, ◌==◌, take, drop, is_some, IsSome, nat_le, bytes_eq}
use Rattle.std.specs.List.{list_all}
use Rattle.std.proofs.lemmas.Bool.{false≢true, and_parts, or_parts, or_from, eqb-true, cases_lt, leb-true}
use Rattle.std.proofs.lemmas.Slice.Eq.{bytes_eq-Decides}
use Rattle.std.proofs.lemmas.List.{take_at, drop_at, take_all, drop_all, append-nil, nil_from_length, take-append-drop}
use Rattle.pz_syntax.specs.declared.tokens.TokenKind.{TokenKind}
use Rattle.pz_syntax.specs.declared.tokens.Symbol.{Symbol}
use Rattle.pz_lexer.specs.Bytes.{begins, is_blank, is_word, is_letter, is_digit}
use Rattle.pz_lexer.specs.Spellings.{spelled}
use Rattle.pz_lexer.specs.Comments.{begins_comment}
use Rattle.pz_lexer.specs.Symbols.{symbols, IsSymbol}
use Rattle.pz_lexer.specs.declared.sorts.Sort.{Sort}
use Rattle.pz_lexer.specs.Pieces.{a_symbol}
use Rattle.pz_lexer.specs.declared.sorts.Reason.{Reason}
use Rattle.pz_lexer.specs.Refusals.{begins_piece, no_token}
use Rattle.pz_lexer.specs.devices.Step.{Step, piece, stop}
use Rattle.pz_lexer.specs.devices.SymbolStep.{symbol_by, symbol_at, symbol_step}
use Rattle.pz_lexer.specs.devices.CommentStep.{slash_step, slash_by}
use Rattle.pz_lexer.specs.devices.Twin.{first_step, Class, blanks, letter, digit, double_quote, single_quote, slash, other, class_of, step_by}
use Rattle.pz_lexer.proofs.Classes.{ClassIs, IsOther, class_is, class_other}
use Rattle.pz_lexer.proofs.Steps.{HasByte, IsRight}

spelled-here : {X : Type 0} (entry : List ℕ × X) (table : List (List ℕ × X)) (text : List ℕ) → bytes_eq entry.0 text ≡ false → spelled (entry ∷ table) text ≡ spelled table text
spelled-here entry table text e = rw e refl

-- what passes for each spelling of a table passes for what is spelled by it
spelled_passes : {X : Type 0} (test : List ℕ → Bool) (table : List (List ℕ × X)) (text : List ℕ) → list_all (λ entry. test entry.0) table ≡ true → is_some (spelled table text) ≡ true → test text ≡ true
spelled_passes test [] text all some = absurd (false≢true some)
spelled_passes test (entry ∷ table) text all some = by (bytes_eq entry.0 text) refl (spelled_passes test table text parts.1)
  where
    parts : (test entry.0 ≡ true) × (list_all (λ e. test e.0) table ≡ true)
    parts = and_parts _ _ all

    by : (t : Bool) → bytes_eq entry.0 text ≡ t → (is_some (spelled table text) ≡ true → test text ≡ true) → test text ≡ true
    by true e later = subst (λ s. test s ≡ true) ((bytes_eq-Decides entry.0 text).0 e) parts.0
    by false e later = later (subst (λ o. is_some o ≡ true) (spelled-here entry table text e) some)

-- an `other` byte or a `/`
abbrev pub begins_symbol : Class → Bool
begins_symbol blanks = false
begins_symbol letter = false
begins_symbol digit = false
begins_symbol double_quote = false
begins_symbol single_quote = false
begins_symbol slash = true
begins_symbol other = true

-- a spelling of a symbol has one to three bytes, and its first byte spells a symbol too
abbrev is_spelling : List ℕ → Bool
is_spelling text = nat_le (length text) 3 && begins (λ b. begins_symbol (class_of b) && is_some (spelled symbols (b ∷ []))) text

spelling : (text : List ℕ) → is_some (spelled symbols text) ≡ true → is_spelling text ≡ true
spelling text some = spelled_passes is_spelling symbols text refl some

-- a text whose first so many bytes are no more than its front is that front and the rest
front_whole : (text rest : List ℕ) (n : ℕ) → length text ≤ n → length (take n (text ++ rest)) ≤ length text → (take n (text ++ rest) ≡ text) × (drop n (text ++ rest) ≡ rest)
front_whole text rest n fits short = by (cases_lt (length text) n)
  where
    by : (length text < n) ⊎ (n ≤ length text) → (take n (text ++ rest) ≡ text) × (drop n (text ++ rest) ≡ rest)
    by (inr same) = (take_at text rest n (omega arith), drop_at text rest n (omega arith))
    by (inl less) =
        let empty : rest ≡ [] = nil_from_length rest (omega (arith, length-take n (text ++ rest), length-append text rest)) in
        let all : text ++ rest ≡ text = ap (λ t. text ++ t) empty ∙ append-nil text in
        (ap (take n) all ∙ take_all n text fits, ap (drop n) all ∙ drop_all n text fits ∙ sym empty)

-- a symbol is found among its first so many bytes, or among fewer
at_found : (n : ℕ) (text rest : List ℕ) (symbol : Symbol) (shorter : Step) → IsSymbol text symbol rest → length text ≤ n → (length text ≡ n) ⊎ (shorter ≡ piece text (Sort.Token (TokenKind.Sym symbol)) rest) → symbol_at n (text ++ rest) shorter ≡ piece text (Sort.Token (TokenKind.Sym symbol)) rest
at_found n text rest symbol shorter is fits at = by (cases_lt (length text) (length (take n (text ++ rest))))
  where
    all : List ℕ
    all = text ++ rest

    target : Step
    target = piece text (Sort.Token (TokenKind.Sym symbol)) rest

    less : length text < length (take n all) → (length text ≡ n) ⊎ (shorter ≡ target) → shorter ≡ target
    less longer (inl same) = absurd (omega (arith, longer, length-take n all))
    less longer (inr found) = found

    beyond : length text < length (take n all) → (o : Option Symbol) → spelled symbols (take n all) ≡ o → symbol_by o n all shorter ≡ target
    beyond longer None e = less longer at
    beyond longer (Some another) e =
        let most : length (take n all) ≤ length text = is.longest (take n all) (drop n all) (sym (take-append-drop n all)) (ap is_some e) in
        absurd (omega (arith, longer, most))

    by : (length text < length (take n all)) ⊎ (length (take n all) ≤ length text) → symbol_at n all shorter ≡ target
    by (inl longer) = beyond longer (spelled symbols (take n all)) refl
    by (inr short) =
        let same = front_whole text rest n fits short in
        ap (λ o. symbol_by o n all shorter) (ap (spelled symbols) same.0 ∙ is.spells)
        ∙ ap₂ (λ x y. piece x (Sort.Token (TokenKind.Sym symbol)) y) same.0 same.1

-- where a symbol may stand and no comment begins, a symbol is sought
symbol_first : (b : ℕ) (bs : List ℕ) → begins_symbol (class_of b) ≡ true → begins_comment (b ∷ bs) ≡ false → first_step (b ∷ bs) ≡ symbol_step (b ∷ bs)
symbol_first b bs begun apart = by (class_of b) (class_is b) begun
  where
    slashed : (b : ℕ) → b ≡ 47 → begins_comment (b ∷ bs) ≡ false → slash_step bs ≡ symbol_step (b ∷ bs)
    slashed b e apart =
        let parts = or_parts _ _ (rw e at apart) in
        ap₂ (λ x y. slash_by x y bs) parts.0 parts.1 ∙ ap (λ x. symbol_step (x ∷ bs)) (sym e)

    by : (c : Class) → ClassIs b c → begins_symbol c ≡ true → step_by c b bs ≡ symbol_step (b ∷ bs)
    by blanks is begun = absurd (false≢true begun)
    by letter is begun = absurd (false≢true begun)
    by digit is begun = absurd (false≢true begun)
    by double_quote is begun = absurd (false≢true begun)
    by single_quote is begun = absurd (false≢true begun)
    by slash is begun = slashed b is apart
    by other is begun = refl

pub symbol_found : (text : List ℕ) (symbol : Symbol) (rest : List ℕ) → IsSymbol text symbol rest → first_step (text ++ rest) ≡ piece text (Sort.Token (TokenKind.Sym symbol)) rest
symbol_found [] symbol rest is = absurd (false≢true (ap is_some is.spells))
symbol_found (b ∷ bs) symbol rest is = symbol_first b (bs ++ rest) begun is.apart ∙ three
  where
    text : List ℕ
    text = b ∷ bs

    all : List ℕ
    all = text ++ rest

    target : Step
    target = piece text (Sort.Token (TokenKind.Sym symbol)) rest

    parts : (nat_le (length text) 3 ≡ true) × ((begins_symbol (class_of b) && is_some (spelled symbols (b ∷ []))) ≡ true)
    parts = and_parts _ _ (spelling text (ap is_some is.spells))

    begun : begins_symbol (class_of b) ≡ true
    begun = (and_parts _ _ parts.1).0

    fits : length text ≤ 3
    fits = leb-true _ _ parts.0

    one : length text ≤ 1 → symbol_at 1 all (stop [] all Reason.BadByte) ≡ target
    one most = at_found 1 text rest symbol (stop [] all Reason.BadByte) is most (inl (omega arith))

    two : length text ≤ 2 → symbol_at 2 all (symbol_at 1 all (stop [] all Reason.BadByte)) ≡ target
    two most = at_found 2 text rest symbol (symbol_at 1 all (stop [] all Reason.BadByte)) is most (⊎_elim (λ less. inr (one (omega arith))) (λ same. inl (omega arith)) (cases_lt (length text) 2))

    three : symbol_step all ≡ target
    three = at_found 3 text rest symbol (symbol_at 2 all (symbol_at 1 all (stop [] all Reason.BadByte))) is fits (⊎_elim (λ less. inr (two (omega arith))) (λ same. inl (omega (arith, fits))) (cases_lt (length text) 3))

-- no front that spells a symbol is longer
abbrev AtMost : ℕ → List ℕ → Type 0
AtMost n all = (more after : List ℕ) → all ≡ more ++ after → IsSome (spelled symbols more) → length more ≤ n

at_most_three : (all : List ℕ) → AtMost 3 all
at_most_three all more after e some = leb-true _ _ ((and_parts _ _ (spelling more some)).0)

one_less : (m n : ℕ) (all : List ℕ) → m ≡ suc n → AtMost m all → spelled symbols (take m all) ≡ None → AtMost n all
one_less m n all step most none_there more after e some = by (cases_lt (length more) m)
  where
    by : (length more < m) ⊎ (m ≤ length more) → length more ≤ n
    by (inl less) = omega arith
    by (inr same) =
        let front : take m all ≡ more = ap (take m) e ∙ take_at more after m (omega (arith, most more after e some)) in
        absurd (false≢true (sym (ap is_some (ap (spelled symbols) (sym front) ∙ none_there)) ∙ some))

at_right : (n : ℕ) (b : ℕ) (bs : List ℕ) (shorter : Step) → 0 < n → begins_comment (b ∷ bs) ≡ false → AtMost n (b ∷ bs) → (spelled symbols (take n (b ∷ bs)) ≡ None → IsRight (b ∷ bs) shorter) → IsRight (b ∷ bs) (symbol_at n (b ∷ bs) shorter)
at_right n b bs shorter some apart most otherwise = by (spelled symbols (take n (b ∷ bs))) refl
  where
    all : List ℕ
    all = b ∷ bs

    whole : take n all ++ drop n all ≡ all
    whole = take-append-drop n all

    not_empty : (n : ℕ) → 0 < n → HasByte (take n (b ∷ bs))
    not_empty zero some = absurd (omega arith)
    not_empty (suc n) some = tt

    by : (o : Option Symbol) → spelled symbols (take n all) ≡ o → IsRight all (symbol_by o n all shorter)
    by None e = otherwise e
    by (Some symbol) e = (
      whole,
      not_empty n some,
      a_symbol (record {
        spells = e;
        longest = λ more after same is. omega (arith, most more after (sym whole ∙ same) is, length-take n all, ap length (sym whole ∙ same), length-append more after);
        apart = ap begins_comment whole ∙ apart;
      }),
    )

-- a byte that begins none of the others, and no symbol, begins nothing
nothing_begins : (b : ℕ) (bs : List ℕ) → begins_symbol (class_of b) ≡ true → spelled symbols (b ∷ []) ≡ None → begins_piece b ≡ false
nothing_begins b bs begun none_there = by (class_of b) (class_is b) begun
  where
    by : (c : Class) → ClassIs b c → begins_symbol c ≡ true → begins_piece b ≡ false
    by blanks is begun = absurd (false≢true begun)
    by letter is begun = absurd (false≢true begun)
    by digit is begun = absurd (false≢true begun)
    by double_quote is begun = absurd (false≢true begun)
    by single_quote is begun = absurd (false≢true begun)
    by slash is begun = absurd (false≢true (sym (ap is_some (rw is at none_there))))
    by other is begun =
        or_from _ _ (or_from _ _ (or_from _ _ (or_from _ _ is.no_blank (or_from _ _ is.no_letter is.no_digit)) is.no_double_quote) is.no_single_quote) (ap is_some none_there)

pub symbol_right : (b : ℕ) (bs : List ℕ) → begins_symbol (class_of b) ≡ true → begins_comment (b ∷ bs) ≡ false → IsRight (b ∷ bs) (symbol_step (b ∷ bs))
symbol_right b bs begun apart =
    at_right 3 b bs (symbol_at 2 all (symbol_at 1 all (stop [] all Reason.BadByte))) (omega arith) apart (at_most_three all) (λ three.
    let most2 = one_less 3 2 all refl (at_most_three all) three in
    at_right 2 b bs (symbol_at 1 all (stop [] all Reason.BadByte)) (omega arith) apart most2 (λ two.
    let most1 = one_less 2 1 all refl most2 two in
    at_right 1 b bs (stop [] all Reason.BadByte) (omega arith) apart most1 (λ one.
    (refl, no_token (nothing_begins b bs begun one)))))
  where
    all : List ℕ
    all = b ∷ bs

none_spelled : (n : ℕ) (b : ℕ) (bs : List ℕ) (shorter : Step) → is_some (spelled symbols (b ∷ [])) ≡ false → 0 < n → symbol_at n (b ∷ bs) shorter ≡ shorter
none_spelled zero b bs shorter e some = absurd (omega arith)
none_spelled (suc n) b bs shorter e some = by (spelled symbols (b ∷ take n bs)) refl
  where
    by : (o : Option Symbol) → spelled symbols (b ∷ take n bs) ≡ o → symbol_by o (suc n) (b ∷ bs) shorter ≡ shorter
    by None _ = refl
    by (Some symbol) is =
        let first = (and_parts _ _ ((and_parts _ _ (spelling (b ∷ take n bs) (ap is_some is))).1)).1 in
        absurd (false≢true (sym e ∙ first))

pub no_token_found : (b : ℕ) (bs : List ℕ) → begins_piece b ≡ false → first_step (b ∷ bs) ≡ stop [] (b ∷ bs) Reason.BadByte
no_token_found b bs e =
    ap (λ c. step_by c b bs) (class_other b is)
    ∙ none_spelled 3 b bs _ none_there (omega arith) ∙ none_spelled 2 b bs _ none_there (omega arith) ∙ none_spelled 1 b bs _ none_there (omega arith)
  where
    outer : ((is_blank b || is_word b || b == 34 || b == 39) ≡ false) × (is_some (spelled symbols (b ∷ [])) ≡ false)
    outer = or_parts _ _ e

    none_there : is_some (spelled symbols (b ∷ [])) ≡ false
    none_there = outer.1

    three : ((is_blank b || is_word b || b == 34) ≡ false) × ((b == 39) ≡ false)
    three = or_parts _ _ outer.0

    two : ((is_blank b || is_word b) ≡ false) × ((b == 34) ≡ false)
    two = or_parts _ _ three.0

    one : (is_blank b ≡ false) × (is_word b ≡ false)
    one = or_parts _ _ two.0

    words : (is_letter b ≡ false) × (is_digit b ≡ false)
    words = or_parts _ _ one.1

    no_slash : (t : Bool) → (b == 47) ≡ t → t ≡ false
    no_slash false is = refl
    no_slash true is = absurd (false≢true (sym (rw (eqb-true b 47 is) at none_there)))

    is : IsOther b
    is = record { no_blank = one.0; no_letter = words.0; no_digit = words.1; no_double_quote = two.1; no_single_quote = three.1; no_slash = no_slash (b == 47) refl }
