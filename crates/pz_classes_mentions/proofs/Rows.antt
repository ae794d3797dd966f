-- Small declarations and what they mention.
use Rattle.std.proofs.Common.{◌≡◌, refl, [], ◌∷◌, Some, None, true, codes, pos}
use Rattle.pz_syntax.specs.declared.tokens.Pos.{Pos}
use Rattle.pz_syntax.specs.declared.tokens.Symbol.TheVariants as s
use Rattle.pz_syntax.specs.declared.names.Id.{Id}
use Rattle.pz_syntax.specs.declared.exprs.Literal.TheVariants as lit
use Rattle.pz_syntax.specs.declared.classes.VarGroup.{VarGroup}
use Rattle.pz_syntax.specs.declared.clusters.Arg.TheVariants as arg
use Rattle.pz_syntax.specs.Expressions.{literal, variable, me, clock, creation, chain, sends, none, more, left_out, written, no_links, link, no_sendings, sending}
use Rattle.pz_syntax.specs.Statements.{send, receive, call, no_statements, then}
use Rattle.pz_syntax.specs.Classes.{process_class, system}
use Rattle.pz_classes_mentions.specs.declared.mention.Mention.TheVariants as m
use Rattle.pz_classes_mentions.specs.Declarations.{parts}

-- every word stands here
abbrev here : Pos
here = record { line = 1; column = 1 }

abbrev a : Id
a = record { name = codes "a"; pos = here }

abbrev f : Id
f = record { name = codes "f"; pos = here }

abbrev v : Id
v = record { name = codes "v"; pos = here }

abbrev w : Id
w = record { name = codes "w"; pos = here }

abbrev P : Id
P = record { name = codes "P"; pos = here }

abbrev T : Id
T = record { name = codes "T"; pos = here }

-- v, w : T
abbrev both : VarGroup
both = record { names = v ∷ w ∷ []; kind = T }

-- process class P ports a messages a!f(T, T) variables v, w : T init f(1.5)()
-- methods f(v : T)(w : T) | a : T | a?f(v, w | v < currentTime); a!f(new(T) f(self, 1) f); f()(v)
process : parts (process_class (record {
  name = P;
  parameters = None;
  parent = None;
  ports = Some (a ∷ []);
  messages = Some (record { port = a; out = true; name = f; types = Some (T ∷ T ∷ []) } ∷ []);
  variables = Some (both ∷ []);
  start = Some (record { method = f; args = more (literal here lit.Float) none });
  methods = Some (record {
    name = f;
    inputs = record { names = v ∷ []; kind = T } ∷ [];
    outputs = record { names = w ∷ []; kind = T } ∷ [];
    locals = Some (record { names = a ∷ []; kind = T } ∷ []);
    body =
        (then) (receive here a f (Some (v ∷ w ∷ [])) (Some (chain here (variable here v) (link s.Less here (clock here) no_links))) left_out)
        ((then) (send here a f (written (more (sends here (creation here T) (sending f (written (more (me here) (more (literal here (lit.Int (pos 1))) none))) (sending f left_out no_sendings))) none)) left_out)
        ((then) (call here f none (v ∷ [])) no_statements));
  } ∷ []);
}))
    ≡ record {
      locals = [];
      mentions = m.Declared P ∷ m.Port a ∷ m.Typed T ∷ m.Typed T ∷ m.Typed T ∷ m.Called f 1 0 ∷ m.Float here ∷ [];
    } ∷
    record {
      locals = v ∷ w ∷ a ∷ [];
      mentions =
          m.Typed T ∷ m.Typed T ∷ m.Typed T ∷
          m.Port a ∷ m.Received a f 2 ∷ m.Variable v ∷ m.Variable w ∷ m.Variable v ∷ m.Clock here ∷
          m.Port a ∷ m.Sent a f 1 ∷ m.Created T ∷ m.Selector f 2 ∷ m.Me here ∷ m.Selector f 0 ∷
          m.Called f 0 1 ∷ m.Variable v ∷ [];
    } ∷ []
process = refl

-- system instances a : P(v := 1.5, w := -1, f := w)
instances : parts (system (record {
  pos = here;
  instances = Some (record {
    name = a;
    class = P;
    given = Some (
        record { name = v; arg = arg.Plain lit.Float here } ∷
        record { name = w; arg = arg.Negated (pos 1) here } ∷
        record { name = f; arg = arg.Parameter w } ∷ []);
  } ∷ []);
  channels = None;
})) ≡ record { locals = []; mentions = m.Instantiated P ∷ m.Float here ∷ m.Variable w ∷ [] } ∷ []
instances = refl
