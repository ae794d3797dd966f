use Rattle.std.proofs.Common.{string_bytes, arith}
use Rattle.pz_debug.proofs.Asked.{names, session_of}
use Rattle.pz_debug.proofs.asking.names_in.Goals as goal

pub returns-in-len2 : goal.returns-in-len2
returns-in-len2 c =
    session_of string_bytes c.args.words.now c.model-item.result c.commands-item.result _ _ (omega (arith, c.in-len2.len_at_least)) (omega (arith, c.in-len2.len_below)) c.model-item.is c.commands-item.is
    c.as_str-in-len2.ensures.value c.as_str-in-len2-2.ensures.value
    (names c.is_name.result c.as_str.result.now _ c.is_name.ensures c.if-is_name.true c.as_str.ensures.value)
    (names c.is_name-then-is_name.result c.as_str-then-is_name.result.now _ c.is_name-then-is_name.ensures c.if-is_name-2.true c.as_str-then-is_name.ensures.value)
