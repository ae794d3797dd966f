-- The rules for the messages of a process class.
use Rattle.std.proofs.Common.{◌≡◌, ◌≢◌, ℕ, suc, ◌+◌, Bool, true, false, List, [], ◌∷◌, ◌++◌, length, Option, Some, None, Ok, refl, ap, sym, ◌∙◌, arith, append_assoc}
use Rattle.pz_syntax.specs.declared.tokens.Pos.{Pos}
use Rattle.pz_syntax.specs.declared.tokens.Symbol.TheVariants as s
use Rattle.pz_syntax.specs.declared.tokens.Keyword.TheVariants as k
use Rattle.pz_syntax.specs.declared.tokens.TokenKind.TheVariants as kind
use Rattle.pz_syntax.specs.declared.tokens.Mark.{Mark}
use Rattle.pz_syntax.specs.declared.names.Id.{Id}
use Rattle.pz_syntax.specs.declared.classes.Message.{Message}
use Rattle.pz_syntax.specs.Marks.{symbol, word, names_text, optional as optional_text, section as section_text}
use Rattle.pz_syntax.specs.ClassText.{direction as direction_symbol, types_text, message_text, messages_text}
use Rattle.pz_syntax.specs.ModelForm.{IfWritten}
use Rattle.pz_parser_cursor.specs.declared.ahead.Next.{Next}
use Rattle.pz_parser_cursor.specs.declared.ahead.Next.TheVariants as n
use Rattle.pz_parser_cursor.specs.devices.LookAhead.{next, same}
use Rattle.pz_parser_cursor.specs.devices.Input.{Tokens, marks, after, identifier, name, position, sees}
use Rattle.pz_parser_cursor.specs.devices.Device.{expect, expect_id}
use Rattle.pz_parser_cursor.specs.devices.Lists.{list_of}
use Rattle.pz_parser_cursor.specs.devices.Names as names
use Rattle.pz_parser_cursor.specs.Places.{located, place_optional, place_section}
use Rattle.pz_parser_cursor.proofs.Shown.{token_of}
use Rattle.pz_parser_cursor.proofs.Steps.{bind_ok, takes, expected, not_seen}
use Rattle.pz_parser_cursor.proofs.Reading.{Took, Sound, Complete, ok_took, split_located}
use Rattle.pz_parser_cursor.proofs.Joined.{joined, joined_is, joined_sound, joined_complete, Filled, token}
use Rattle.pz_parser_cursor.proofs.Optional.{optional_sound, optional_complete, or_none_sound, or_none_complete}
use Rattle.pz_parser_cursor.proofs.Named.{Any, Whatever, every, comma_is, comma_seen, word_sound, optional_names_sound, optional_names_complete}
use Rattle.pz_parser_cursor.proofs.Sections.{section_sound, section_complete}
use Rattle.pz_parser_declarations.specs.devices.Sections as spec
use Rattle.pz_parser_declarations.specs.DeclarationPlaces.{place_types, place_message, place_messages}
use Rattle.pz_parser_cursor.proofs.Orders.{Behind, behind_not}

-- ---- what is read

types_sound : Sound types_text spec.types Any
unfolding spec.types
types_sound = record {
  reads = λ i y e.
      let a = bind_ok (expect n.LeftParen i) _ y e in
      let left = expected n.LeftParen (kind.Sym s.LeftParen) i a.0 refl a.1 in
      let b = bind_ok (names.optional_names a.0.1) _ y a.2 in
      let xs = optional_names_sound.reads a.0.1 b.0 b.1 in
      let c = bind_ok (expect n.RightParen b.0.1) _ y b.2 in
      let right = expected n.RightParen (kind.Sym s.RightParen) b.0.1 c.0 refl c.1 in
      ok_took (b.0.0, c.0.1) y c.2 (record {
        parts = left ∙ ap (λ r. symbol s.LeftParen ∷ r) (xs.parts ∙ ap (λ r. names_text b.0.0 ++ r) right ∙ sym (append_assoc (names_text b.0.0) (symbol s.RightParen ∷ []) (marks c.0.1)));
        meets = tt;
      });
}

abbrev direction_text : Bool → List Mark
direction_text out = symbol (direction_symbol out) ∷ []

direction_sound : Sound direction_text spec.direction Any
unfolding spec.direction
direction_sound = record { reads = λ i y e. at i y (next i) refl e }
  where
    at : (i : Tokens) (y : Bool × Tokens) (x : Next) → next i ≡ x → spec.direction_by x i ≡ Ok y → Took direction_text Any i y
    at i y n.Bang h e = ok_took (true, after i) y e (record { parts = takes (kind.Sym s.Bang) i (ap token_of h); meets = tt })
    at i y n.Query h e = ok_took (false, after i) y e (record { parts = takes (kind.Sym s.Query) i (ap token_of h); meets = tt })
    at i y _ h e = absurd cc

pub message_sound : Sound message_text spec.message Any
unfolding spec.message spec.optional_types
message_sound = record {
  reads = λ i y e.
      let a = bind_ok (names.word i) _ y e in
      let port = word_sound.reads i a.0 a.1 in
      let b = bind_ok (spec.direction a.0.1) _ y a.2 in
      let out = direction_sound.reads a.0.1 b.0 b.1 in
      let c = bind_ok (names.word b.0.1) _ y b.2 in
      let called = word_sound.reads b.0.1 c.0 c.1 in
      let d = bind_ok (spec.optional_types c.0.1) _ y c.2 in
      let types = (optional_sound types_text (sees n.LeftParen) spec.types Any types_sound).reads c.0.1 d.0 d.1 in
      ok_took (record { port = a.0.0; out = b.0.0; name = c.0.0; types = d.0.0 }, d.0.1) y d.2 (record {
        parts = port.parts ∙ ap (λ r. word a.0.0 ∷ r) (out.parts ∙ ap (λ r. symbol (direction_symbol b.0.0) ∷ r) (called.parts ∙ ap (λ r. word c.0.0 ∷ r) types.parts));
        meets = tt;
      });
}

messages_are : (ms : List Message) → joined message_text (kind.Sym s.Comma) ms ≡ messages_text ms
messages_are = joined_is message_text s.Comma

messages_sound : Sound messages_text spec.messages (Filled Any)
unfolding spec.messages
messages_sound = record {
  reads = λ i y e.
      let t = (joined_sound message_text spec.message Any n.Comma (kind.Sym s.Comma) refl message_sound).reads i y e in
      record { parts = t.parts ∙ ap (λ r. r ++ marks y.1) (messages_are y.0); meets = t.meets };
}

optional_messages_sound : Sound messages_text spec.optional_messages Any
unfolding spec.optional_messages
optional_messages_sound = record { reads = λ i y e. let t = (or_none_sound messages_text (sees n.Word) spec.messages Any refl messages_sound).reads i y e in record { parts = t.parts; meets = tt } }

pub messages_section_sound : Sound (section_text k.Messages messages_text) spec.messages_section (IfWritten Any)
unfolding spec.messages_section
messages_section_sound = section_sound n.Messages k.Messages messages_text spec.optional_messages Any refl optional_messages_sound

-- ---- what is given

types_complete : Complete types_text place_types spec.types Any Whatever
unfolding spec.types next after expect sees same
types_complete = record {
  gives = λ at m ts j p h.
      let r = located at (suc m + length (names_text ts)) (symbol s.RightParen ∷ []) ++ j in
      rw (split_located at (suc m) (names_text ts) (symbol s.RightParen ∷ []) j, optional_names_complete.gives at (suc m) ts r tt ((λ e. absurd cc), (λ e. absurd cc))) refl;
}

types_begin : (at : ℕ → Pos) (m : ℕ) (ts : List Id) (j : Tokens) → Any ts → sees n.LeftParen (located at m (types_text ts) ++ j) ≡ true
unfolding sees same next
types_begin at m ts j p = refl

optional_types_given : (at : ℕ → Pos) (m : ℕ) (t : Option (List Id)) (j : Tokens) → next j ≢ n.LeftParen → spec.optional_types (located at m (optional_text types_text t) ++ j) ≡ Ok (place_optional place_types at m t, j)
unfolding spec.optional_types
optional_types_given at m t j h = optional_complete types_text (sees n.LeftParen) spec.types Any place_types Whatever types_complete types_begin at m t j (any t) tt (not_seen n.LeftParen j h)
  where
    any : (t : Option (List Id)) → IfWritten Any t
    any None = tt
    any (Some x) = tt

message_given : (at : ℕ → Pos) (m : ℕ) (port : Id) (out : Bool) (called : Id) (types : Option (List Id)) (j : Tokens) → next j ≢ n.LeftParen → spec.message (located at m (message_text (record { port = port; out = out; name = called; types = types })) ++ j) ≡ Ok (place_message at m (record { port = port; out = out; name = called; types = types }), j)
unfolding spec.message spec.direction next after identifier name position expect_id sees same
message_given at m port true called types j h = rw (optional_types_given at (suc (suc (suc m))) types j h) refl
message_given at m port false called types j h = rw (optional_types_given at (suc (suc (suc m))) types j h) refl

pub message_complete : Complete message_text place_message spec.message Any (λ x. x ≢ n.LeftParen)
message_complete = record { gives = λ at m t j p h. message_given at m t.port t.out t.name t.types j h }

abbrev StopsMessages : Next → Type 0
StopsMessages x = (x ≢ n.LeftParen) × (x ≢ n.Comma)

messages_complete : Complete messages_text place_messages spec.messages (Filled Any) StopsMessages
unfolding spec.messages
messages_complete = record {
  gives = λ at m ts j p h.
      ap (λ r. list_of spec.message n.Comma (located at m r ++ j)) (sym (messages_are ts))
      ∙ (joined_complete message_text place_message spec.message Any n.Comma (kind.Sym s.Comma) (λ x. x ≢ n.LeftParen) (λ e. absurd cc) comma_is comma_seen message_complete).gives at m ts j p h;
}

messages_begin : (at : ℕ → Pos) (m : ℕ) (ts : List Message) (j : Tokens) → Filled Any ts → sees n.Word (located at m (messages_text ts) ++ j) ≡ true
unfolding sees same next
messages_begin at m [] j p = absurd p
messages_begin at m (t ∷ ts) j p = refl

optional_messages_complete : Complete messages_text place_messages spec.optional_messages Any (Behind 3)
unfolding spec.optional_messages
optional_messages_complete = record {
  gives = λ at m ts j p h.
      or_none_complete messages_text (sees n.Word) spec.messages Any refl place_messages StopsMessages messages_complete (λ at n. refl) messages_begin at m ts j (every ts)
      (behind_not 3 (next j) n.LeftParen h (omega arith), behind_not 3 (next j) n.Comma h (omega arith)) (not_seen n.Word j (behind_not 3 (next j) n.Word h (omega arith)));
}

messages_seen : (p : Pos) (i : Tokens) → sees n.Messages (token (kind.Key k.Messages) p ∷ i) ≡ true
unfolding sees same next
messages_seen p i = refl

pub messages_section_complete : Complete (section_text k.Messages messages_text) (place_section place_messages) spec.messages_section (IfWritten Any) (Behind 3)
unfolding spec.messages_section
messages_section_complete = record {
  gives = λ at m t j p h.
      (section_complete n.Messages k.Messages messages_text spec.optional_messages Any messages_seen place_messages (Behind 3) optional_messages_complete).gives at m t j p (h, behind_not 3 (next j) n.Messages h (omega arith));
}
