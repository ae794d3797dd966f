-- What stands behind a keyword and may be left out.
use Rattle.std.proofs.Common.{◌≡◌, ◌≢◌, suc, true, List, ◌∷◌, ◌++◌, Option, Some, None, refl, ap, sym, ◌∙◌}
use Rattle.pz_syntax.specs.declared.tokens.Pos.{Pos}
use Rattle.pz_syntax.specs.declared.tokens.Keyword.{Keyword}
use Rattle.pz_syntax.specs.declared.tokens.Keyword.TheVariants as k
use Rattle.pz_syntax.specs.declared.tokens.TokenKind.TheVariants as kind
use Rattle.pz_syntax.specs.declared.tokens.Mark.{Mark}
use Rattle.pz_syntax.specs.Marks.{keyword, names_text, optional as optional_text, section as section_text}
use Rattle.pz_syntax.specs.ModelForm.{IfWritten}
use Rattle.pz_parser_cursor.specs.declared.ahead.Next.{Next}
use Rattle.pz_parser_cursor.specs.declared.ahead.Next.TheVariants as n
use Rattle.pz_parser_cursor.specs.devices.LookAhead.{next, same}
use Rattle.pz_parser_cursor.specs.devices.Input.{Tokens, marks, after, sees}
use Rattle.pz_parser_cursor.specs.devices.Device.{Parser, expect, behind, section}
use Rattle.pz_parser_cursor.specs.devices.Names as spec
use Rattle.pz_parser_cursor.specs.Places.{located, Placing, place_section, place_names}
use Rattle.pz_parser_cursor.proofs.Shown.{token_of}
use Rattle.pz_parser_cursor.proofs.Steps.{bind_ok, expected, expect_is, not_seen}
use Rattle.pz_parser_cursor.proofs.Reading.{Sound, Complete}
use Rattle.pz_parser_cursor.proofs.Joined.{token}
use Rattle.pz_parser_cursor.proofs.Optional.{optional_sound, optional_complete}
use Rattle.pz_parser_cursor.proofs.Named.{Any, optional_names_sound, optional_names_complete}

module _ {A : Type 0} (word : Next) (key : Keyword) (text : A → List Mark) where
  abbrev pub headed : A → List Mark
  headed x = keyword key ∷ text x

  section_is : (o : Option A) → optional_text headed o ≡ section_text key text o
  section_is None = refl
  section_is (Some x) = refl

  module _ (item : Parser A) (P : A → Type 0) where
    pub headed_sound : token_of word ≡ Some (kind.Key key) → Sound text item P → Sound headed (behind word item) P
    headed_sound shows s = record {
      reads = λ i y e.
          let a = bind_ok (expect word i) _ y e in
          let rest = s.reads a.0.1 y a.2 in
          record { parts = expected word (kind.Key key) i a.0 shows a.1 ∙ ap (λ r. keyword key ∷ r) rest.parts; meets = rest.meets };
    }

    pub section_sound : token_of word ≡ Some (kind.Key key) → Sound text item P → Sound (section_text key text) (section word item) (IfWritten P)
    section_sound shows s = record {
      reads = λ i y e.
          let t = (optional_sound headed (sees word) (behind word item) P (headed_sound shows s)).reads i y e in
          record { parts = t.parts ∙ ap (λ r. r ++ marks y.1) (section_is y.0); meets = t.meets };
    }

    module _ (seen : (p : Pos) (i : Tokens) → sees word (token (kind.Key key) p ∷ i) ≡ true) (place : Placing A) (Stop : Next → Type 0) where
      headed_complete : Complete text place item P Stop → Complete headed (λ at n x. place at (suc n) x) (behind word item) P Stop
      unfolding after
      headed_complete c = record {
        gives = λ at n t j p h.
            let i = located at n (headed t) ++ j in
            rw (expect_is word i (seen (at n) (located at (suc n) (text t) ++ j)), c.gives at (suc n) t j p h) refl;
      }

      pub section_complete : Complete text place item P Stop → Complete (section_text key text) (place_section place) (section word item) (IfWritten P) (λ x. Stop x × (x ≢ word))
      section_complete c = record {
        gives = λ at n t j p h.
            ap (λ r. section word item (located at n r ++ j)) (sym (section_is t))
            ∙ optional_complete headed (sees word) (behind word item) P (λ at n x. place at (suc n) x) Stop (headed_complete c) (λ at n t j p. seen (at n) (located at (suc n) (text t) ++ j)) at n t j p h.0 (not_seen word j h.1);
      }

-- ---- ports

pub ports_sound : Sound (section_text k.Ports names_text) spec.ports (IfWritten Any)
unfolding spec.ports
ports_sound = section_sound n.Ports k.Ports names_text spec.optional_names Any refl any_names
  where
    any_names : Sound names_text spec.optional_names Any
    any_names = record { reads = λ i y e. let t = optional_names_sound.reads i y e in record { parts = t.parts; meets = tt } }

ports_seen : (p : Pos) (i : Tokens) → sees n.Ports (token (kind.Key k.Ports) p ∷ i) ≡ true
unfolding sees same next
ports_seen p i = refl

pub ports_complete : Complete (section_text k.Ports names_text) (place_section place_names) spec.ports (IfWritten Any) (λ x. ((x ≢ n.Comma) × (x ≢ n.Word)) × (x ≢ n.Ports))
unfolding spec.ports
ports_complete = section_complete n.Ports k.Ports names_text spec.optional_names Any ports_seen place_names (λ x. (x ≢ n.Comma) × (x ≢ n.Word)) optional_names_complete
