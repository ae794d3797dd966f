-- The rules for names, variables and formal parameters.
use Rattle.std.proofs.Common.{◌≡◌, ◌≢◌, ℕ, zero, suc, ◌+◌, ◌<◌, true, false, List, [], ◌∷◌, ◌++◌, length, Option, Some, None, Ok, refl, ap, sym, ◌∙◌, arith, append_assoc, length-append}
use Rattle.std.specs.Prelude.{⊤}
use Rattle.pz_syntax.specs.declared.tokens.Pos.{Pos}
use Rattle.pz_syntax.specs.declared.tokens.Symbol.TheVariants as s
use Rattle.pz_syntax.specs.declared.tokens.TokenKind.TheVariants as kind
use Rattle.pz_syntax.specs.declared.tokens.Mark.{Mark}
use Rattle.pz_syntax.specs.declared.names.Id.{Id}
use Rattle.pz_syntax.specs.declared.classes.VarGroup.{VarGroup}
use Rattle.pz_syntax.specs.Marks.{symbol, word, word_text, names_text, optional as optional_text}
use Rattle.pz_syntax.specs.ClassText.{group_names_from, group_names, group_text, variables_text, formal_text, locals_text}
use Rattle.pz_syntax.specs.ModelForm.{Each, IfWritten, IsGroup, IsNonempty, AreVariables, AreLocals}
use Rattle.pz_parser_cursor.specs.declared.ahead.Next.{Next}
use Rattle.pz_parser_cursor.specs.declared.ahead.Next.TheVariants as n
use Rattle.pz_parser_cursor.specs.devices.LookAhead.{next, same}
use Rattle.pz_parser_cursor.specs.devices.Input.{Tokens, marks, after, identifier, name, position, sees}
use Rattle.pz_parser_cursor.specs.devices.Device.{expect, expect_id}
use Rattle.pz_parser_cursor.specs.devices.Lists.{turns, list_of}
use Rattle.pz_parser_cursor.specs.devices.Names as spec
use Rattle.pz_parser_cursor.specs.Places.{located, place_id, place_names, place_group, place_variables, place_enclosed, place_tail, place_optional}
use Rattle.pz_parser_cursor.proofs.Shown.{token_of}
use Rattle.pz_parser_cursor.proofs.Steps.{bind_ok, takes, not_seen, expect_ok, expect_id_ok}
use Rattle.pz_parser_cursor.proofs.Words.{word_is, head_is}
use Rattle.pz_parser_cursor.proofs.Reading.{Took, Sound, Complete, ok_took, split_located, located_length}
use Rattle.pz_parser_cursor.proofs.Joined.{joined, joined_is, joined_sound, joined_complete, Filled, token}
use Rattle.pz_parser_cursor.proofs.Optional.{optional_sound, optional_complete, or_none_sound, or_none_complete}

abbrev pub Any : {A : Type 0} → A → Type 0
Any x = ⊤

-- whatever stands behind
abbrev pub Whatever : Next → Type 0
Whatever x = ⊤

pub word_sound : Sound word_text spec.word Any
word_sound = record {
  reads = λ i y e.
      let r = expect_id_ok n.Word i y e in
      record { parts = word_is i r.0 ∙ ap (λ x. word x ∷ marks (after i)) r.1 ∙ ap (λ j. word y.0 ∷ marks j) r.2; meets = tt };
}

pub word_complete : Complete word_text place_id spec.word Any Whatever
unfolding expect_id sees same next after identifier name position
word_complete = record { gives = λ at k t j p h. refl }

-- a list without conditions on its items
pub every : {A : Type 0} (xs : List A) → Each Any xs
every [] = tt
every (x ∷ xs) = (tt, every xs)

-- what may be left out, without a condition
pub if_written : {A : Type 0} (o : Option A) → IfWritten Any o
if_written None = tt
if_written (Some x) = tt

pub filled : {A : Type 0} (xs : List A) → Filled Any xs → IsNonempty xs
filled [] p = p
filled (x ∷ xs) p = tt

pub nonempty : {A : Type 0} (xs : List A) → IsNonempty xs → Filled Any xs
nonempty [] p = p
nonempty (x ∷ xs) p = (tt, every xs)

pub comma_is : (p : Pos) (i : Tokens) → next (token (kind.Sym s.Comma) p ∷ i) ≡ n.Comma
unfolding next
comma_is p i = refl

pub comma_seen : (p : Pos) (i : Tokens) → sees n.Comma (token (kind.Sym s.Comma) p ∷ i) ≡ true
unfolding sees same next
comma_seen p i = refl

names_are : (xs : List Id) → joined word_text (kind.Sym s.Comma) xs ≡ names_text xs
names_are = joined_is word_text s.Comma

pub names_sound : Sound names_text spec.names (Filled Any)
unfolding spec.names
names_sound = record {
  reads = λ i y e.
      let t = (joined_sound word_text spec.word Any n.Comma (kind.Sym s.Comma) refl word_sound).reads i y e in
      record { parts = t.parts ∙ ap (λ r. r ++ marks y.1) (names_are y.0); meets = t.meets };
}

pub names_complete : Complete names_text place_names spec.names (Filled Any) (λ x. x ≢ n.Comma)
unfolding spec.names
names_complete = record {
  gives = λ at k ts j p h.
      ap (λ r. list_of spec.word n.Comma (located at k r ++ j)) (sym (names_are ts))
      ∙ (joined_complete word_text place_id spec.word Any n.Comma (kind.Sym s.Comma) Whatever tt comma_is comma_seen word_complete).gives at k ts j p (tt, h);
}

names_begin : (at : ℕ → Pos) (k : ℕ) (ts : List Id) (j : Tokens) → Filled Any ts → sees n.Word (located at k (names_text ts) ++ j) ≡ true
unfolding sees same next
names_begin at k [] j p = absurd p
names_begin at k (t ∷ ts) j p = refl

pub optional_names_sound : Sound names_text spec.optional_names (Each Any)
unfolding spec.optional_names
optional_names_sound = or_none_sound names_text (sees n.Word) spec.names Any refl names_sound

pub optional_names_complete : Complete names_text place_names spec.optional_names Any (λ x. (x ≢ n.Comma) × (x ≢ n.Word))
unfolding spec.optional_names
optional_names_complete = record { gives = λ at k ts j p h. or_none_complete names_text (sees n.Word) spec.names Any refl place_names (λ x. x ≢ n.Comma) names_complete (λ at k. refl) names_begin at k ts j (every ts) h.0 (not_seen n.Word j h.1) }

-- ---- groups

group_names_sound : (turn : ℕ) (i : Tokens) (y : List Id × Tokens) → spec.names_of_group turn i ≡ Ok y → Took group_names IsNonempty i y
unfolding spec.names_of_group
group_names_sound zero i y e = absurd cc
group_names_sound (suc turn) i y e = by (λ j z f. group_names_sound turn j z f) (next i) refl e
  where
    longer : (x : Id) (ys : List Id) (r : List Mark) → IsNonempty ys → word x ∷ symbol s.Comma ∷ (group_names ys ++ r) ≡ group_names (x ∷ ys) ++ r
    longer x [] r p = absurd p
    longer x (y ∷ ys) r p = refl

    by : ((j : Tokens) (z : List Id × Tokens) → spec.names_of_group turn j ≡ Ok z → Took group_names IsNonempty j z) → (x : Next) → next i ≡ x → spec.names_by x (spec.names_of_group turn) i ≡ Ok y → Took group_names IsNonempty i y
    by again n.Word h e =
        let a = bind_ok (expect n.Comma (after i)) _ y e in
        let comma = expect_ok n.Comma (after i) a.0 a.1 in
        let b = bind_ok (spec.names_of_group turn a.0.1) _ y a.2 in
        let rest = again a.0.1 b.0 b.1 in
        ok_took (identifier i ∷ b.0.0, b.0.1) y b.2 (record {
          parts = word_is i h ∙ ap (λ r. word (identifier i) ∷ r) (takes (kind.Sym s.Comma) (after i) (ap token_of comma.0) ∙ ap (λ j. symbol s.Comma ∷ marks j) comma.1 ∙ ap (λ r. symbol s.Comma ∷ r) rest.parts) ∙ longer (identifier i) b.0.0 (marks b.0.1) rest.meets;
          meets = tt;
        })
    by again n.Head h e = ok_took (identifier i ∷ [], after i) y e (record { parts = head_is i h; meets = tt })
    by again _ h e = absurd cc

names_count : (x : Id) (xs : List Id) → length xs < length (group_names_from x xs)
names_count x [] = omega arith
names_count x (y ∷ ys) = omega (arith, names_count y ys)

group_names_complete : (turn : ℕ) (at : ℕ → Pos) (k : ℕ) (x : Id) (xs : List Id) (j : Tokens) → length xs < turn → spec.names_of_group turn (located at k (group_names_from x xs) ++ j) ≡ Ok (place_names at k (x ∷ xs), j)
unfolding spec.names_of_group next after identifier name position expect sees same
group_names_complete zero at k x xs j lt = absurd (omega arith)
group_names_complete (suc turn) at k x [] j lt = refl
group_names_complete (suc turn) at k x (y ∷ ys) j lt =
    let e : suc (suc k) ≡ suc (k + 1) = omega arith in
    rw (group_names_complete turn at (suc (suc k)) y ys j (omega arith)) (ap (λ m. Ok (place_id at k x ∷ place_id at m y ∷ place_tail word_text place_id at (m + 1) ys, j)) e)

pub group_sound : Sound group_text spec.group IsGroup
unfolding spec.group spec.group_names
group_sound = record {
  reads = λ i y e.
      let a = bind_ok (spec.names_of_group (turns i) i) _ y e in
      let names = group_names_sound (turns i) i a.0 a.1 in
      let b = bind_ok (expect n.Colon a.0.1) _ y a.2 in
      let colon = expect_ok n.Colon a.0.1 b.0 b.1 in
      let c = bind_ok (spec.word b.0.1) _ y b.2 in
      let last = word_sound.reads b.0.1 c.0 c.1 in
      ok_took (record { names = a.0.0; kind = c.0.0 }, c.0.1) y c.2 (record {
        parts = names.parts ∙ ap (λ r. group_names a.0.0 ++ r) (takes (kind.Sym s.Colon) a.0.1 (ap token_of colon.0) ∙ ap (λ j. symbol s.Colon ∷ marks j) colon.1 ∙ ap (λ r. symbol s.Colon ∷ r) last.parts)
            ∙ sym (append_assoc (group_names a.0.0) (symbol s.Colon ∷ word c.0.0 ∷ []) (marks c.0.1));
        meets = names.meets;
      });
}

group_step : (at : ℕ → Pos) (k : ℕ) (xs : List Id) (x : Id) (j : Tokens) → spec.group_names (located at k (group_names xs) ++ (located at (k + length (group_names xs)) (symbol s.Colon ∷ word x ∷ []) ++ j)) ≡ Ok (place_names at k xs, located at (k + length (group_names xs)) (symbol s.Colon ∷ word x ∷ []) ++ j) → spec.group (located at k (group_text (record { names = xs; kind = x })) ++ j) ≡ Ok (place_group at k (record { names = xs; kind = x }), j)
unfolding spec.group next after identifier name position expect expect_id sees same
group_step at k xs x j e = rw (split_located at k (group_names xs) (symbol s.Colon ∷ word x ∷ []) j, e) refl

group_by : (at : ℕ → Pos) (k : ℕ) (xs : List Id) (x : Id) (j : Tokens) → IsNonempty xs → spec.group (located at k (group_text (record { names = xs; kind = x })) ++ j) ≡ Ok (place_group at k (record { names = xs; kind = x }), j)
unfolding spec.group_names
group_by at k [] x j p = absurd p
group_by at k (y ∷ ys) x j p =
    let r = located at (k + length (group_names (y ∷ ys))) (symbol s.Colon ∷ word x ∷ []) ++ j in
    group_step at k (y ∷ ys) x j (group_names_complete (turns (located at k (group_names (y ∷ ys)) ++ r)) at k y ys r (omega (arith, names_count y ys, length-append (located at k (group_names (y ∷ ys))) r, located_length at k (group_names (y ∷ ys)))))

pub group_complete : Complete group_text place_group spec.group IsGroup Whatever
group_complete = record { gives = λ at k g j p h. group_by at k g.names g.kind j p }

variables_are : (gs : List VarGroup) → joined group_text (kind.Sym s.Comma) gs ≡ variables_text gs
variables_are = joined_is group_text s.Comma

pub variables_sound : Sound variables_text spec.variables (Filled IsGroup)
unfolding spec.variables
variables_sound = record {
  reads = λ i y e.
      let t = (joined_sound group_text spec.group IsGroup n.Comma (kind.Sym s.Comma) refl group_sound).reads i y e in
      record { parts = t.parts ∙ ap (λ r. r ++ marks y.1) (variables_are y.0); meets = t.meets };
}

pub variables_complete : Complete variables_text place_variables spec.variables (Filled IsGroup) (λ x. x ≢ n.Comma)
unfolding spec.variables
variables_complete = record {
  gives = λ at k ts j p h.
      ap (λ r. list_of spec.group n.Comma (located at k r ++ j)) (sym (variables_are ts))
      ∙ (joined_complete group_text place_group spec.group IsGroup n.Comma (kind.Sym s.Comma) Whatever tt comma_is comma_seen group_complete).gives at k ts j p (tt, h);
}

group_begins : (at : ℕ → Pos) (k : ℕ) (xs : List Id) (x : Id) (gs : List VarGroup) (j : Tokens) → IsNonempty xs → spec.begins_group (located at k (variables_text (record { names = xs; kind = x } ∷ gs)) ++ j) ≡ true
unfolding spec.begins_group sees same next
group_begins at k [] x gs j p = absurd p
group_begins at k (y ∷ []) x gs j p = refl
group_begins at k (y ∷ z ∷ zs) x gs j p = refl

variables_begin : (at : ℕ → Pos) (k : ℕ) (ts : List VarGroup) (j : Tokens) → Filled IsGroup ts → spec.begins_group (located at k (variables_text ts) ++ j) ≡ true
variables_begin at k [] j p = absurd p
variables_begin at k (g ∷ gs) j p = group_begins at k g.names g.kind gs j p.0

pub optional_variables_sound : Sound variables_text spec.optional_variables AreVariables
unfolding spec.optional_variables
optional_variables_sound = or_none_sound variables_text spec.begins_group spec.variables IsGroup refl variables_sound

abbrev pub StopsVariables : Next → Type 0
StopsVariables x = (x ≢ n.Comma) × (x ≢ n.Word) × (x ≢ n.Head)

not_begun : (j : Tokens) → (next j ≢ n.Word) → (next j ≢ n.Head) → spec.begins_group j ≡ false
unfolding spec.begins_group
not_begun j h g = rw (not_seen n.Word j h, not_seen n.Head j g) refl

pub optional_variables_complete : Complete variables_text place_variables spec.optional_variables AreVariables StopsVariables
unfolding spec.optional_variables
optional_variables_complete = record { gives = λ at k ts j p h. or_none_complete variables_text spec.begins_group spec.variables IsGroup refl place_variables (λ x. x ≢ n.Comma) variables_complete (λ at k. refl) variables_begin at k ts j p h.0 (not_begun j h.1 h.2) }

-- ---- formal parameters and local variables

pub formal_sound : Sound formal_text spec.formal AreVariables
unfolding spec.formal
formal_sound = record {
  reads = λ i y e.
      let a = bind_ok (expect n.LeftParen i) _ y e in
      let open_at = expect_ok n.LeftParen i a.0 a.1 in
      let b = bind_ok (spec.optional_variables a.0.1) _ y a.2 in
      let groups = optional_variables_sound.reads a.0.1 b.0 b.1 in
      let c = bind_ok (expect n.RightParen b.0.1) _ y b.2 in
      let close = expect_ok n.RightParen b.0.1 c.0 c.1 in
      ok_took (b.0.0, c.0.1) y c.2 (record {
        parts = takes (kind.Sym s.LeftParen) i (ap token_of open_at.0) ∙ ap (λ r. symbol s.LeftParen ∷ r) (ap marks open_at.1 ∙ groups.parts
            ∙ ap (λ r. variables_text b.0.0 ++ r) (takes (kind.Sym s.RightParen) b.0.1 (ap token_of close.0) ∙ ap (λ j. symbol s.RightParen ∷ marks j) close.1)
            ∙ sym (append_assoc (variables_text b.0.0) (symbol s.RightParen ∷ []) (marks c.0.1)));
        meets = groups.meets;
      });
}

pub formal_complete : Complete formal_text place_enclosed spec.formal AreVariables Whatever
unfolding spec.formal next after expect sees same
formal_complete = record {
  gives = λ at k ts j p h.
      let r = located at (suc k + length (variables_text ts)) (symbol s.RightParen ∷ []) ++ j in
      rw (split_located at (suc k) (variables_text ts) (symbol s.RightParen ∷ []) j, optional_variables_complete.gives at (suc k) ts r p ((λ e. absurd cc), (λ e. absurd cc), (λ e. absurd cc))) refl;
}

formal_begins : (at : ℕ → Pos) (k : ℕ) (ts : List VarGroup) (j : Tokens) → AreVariables ts → sees n.LeftParen (located at k (formal_text ts) ++ j) ≡ true
unfolding sees same next
formal_begins at k ts j p = refl

pub optional_formal_sound : Sound (optional_text formal_text) spec.optional_formal (IfWritten AreVariables)
unfolding spec.optional_formal
optional_formal_sound = optional_sound formal_text (sees n.LeftParen) spec.formal AreVariables formal_sound

pub optional_formal_complete : Complete (optional_text formal_text) (place_optional place_enclosed) spec.optional_formal (IfWritten AreVariables) (λ x. x ≢ n.LeftParen)
unfolding spec.optional_formal
optional_formal_complete = record { gives = λ at k t j p h. optional_complete formal_text (sees n.LeftParen) spec.formal AreVariables place_enclosed Whatever formal_complete formal_begins at k t j p tt (not_seen n.LeftParen j h) }

locals_of : (gs : List VarGroup) → Filled IsGroup gs → AreLocals gs
locals_of [] p = absurd p
locals_of (g ∷ gs) p = (tt, p)

of_locals : (gs : List VarGroup) → AreLocals gs → Filled IsGroup gs
of_locals [] p = absurd p.0
of_locals (g ∷ gs) p = p.1

pub locals_sound : Sound locals_text spec.locals AreLocals
unfolding spec.locals
locals_sound = record {
  reads = λ i y e.
      let a = bind_ok (expect n.Bar i) _ y e in
      let open_at = expect_ok n.Bar i a.0 a.1 in
      let b = bind_ok (spec.variables a.0.1) _ y a.2 in
      let groups = variables_sound.reads a.0.1 b.0 b.1 in
      let c = bind_ok (expect n.Bar b.0.1) _ y b.2 in
      let close = expect_ok n.Bar b.0.1 c.0 c.1 in
      ok_took (b.0.0, c.0.1) y c.2 (record {
        parts = takes (kind.Sym s.Bar) i (ap token_of open_at.0) ∙ ap (λ r. symbol s.Bar ∷ r) (ap marks open_at.1 ∙ groups.parts
            ∙ ap (λ r. variables_text b.0.0 ++ r) (takes (kind.Sym s.Bar) b.0.1 (ap token_of close.0) ∙ ap (λ j. symbol s.Bar ∷ marks j) close.1)
            ∙ sym (append_assoc (variables_text b.0.0) (symbol s.Bar ∷ []) (marks c.0.1)));
        meets = locals_of b.0.0 groups.meets;
      });
}

pub locals_complete : Complete locals_text place_enclosed spec.locals AreLocals Whatever
unfolding spec.locals next after expect sees same
locals_complete = record {
  gives = λ at k ts j p h.
      let r = located at (suc k + length (variables_text ts)) (symbol s.Bar ∷ []) ++ j in
      rw (split_located at (suc k) (variables_text ts) (symbol s.Bar ∷ []) j, variables_complete.gives at (suc k) ts r (of_locals ts p) (λ e. absurd cc)) refl;
}

locals_begin : (at : ℕ → Pos) (k : ℕ) (ts : List VarGroup) (j : Tokens) → AreLocals ts → sees n.Bar (located at k (locals_text ts) ++ j) ≡ true
unfolding sees same next
locals_begin at k ts j p = refl

pub optional_locals_sound : Sound (optional_text locals_text) spec.optional_locals (IfWritten AreLocals)
unfolding spec.optional_locals
optional_locals_sound = optional_sound locals_text (sees n.Bar) spec.locals AreLocals locals_sound

pub optional_locals_complete : Complete (optional_text locals_text) (place_optional place_enclosed) spec.optional_locals (IfWritten AreLocals) (λ x. x ≢ n.Bar)
unfolding spec.optional_locals
optional_locals_complete = record { gives = λ at k t j p h. optional_complete locals_text (sees n.Bar) spec.locals AreLocals place_enclosed Whatever locals_complete locals_begin at k t j p tt (not_seen n.Bar j h) }
