-- `put_character` meets its contract: the bytes of the number, as a string.
use Rattle.std.proofs.Common.{◌≡◌, ap, ◌∙◌}
use lib.Utf8.{encode as bytes_of}
use Rattle.unicode_text.specs.Unicode.{encode}
use Rattle.json_values.proofs.Puts.{puts_none}
use Rattle.json_values.proofs.Valued.{beyond, no_character, a_character, in_range, out_of_range, same_bytes}
use Rattle.json_values.proofs.output.Out.put_character.Goals as goal

pub returns-then-c-gt1114111 : goal.returns-then-c-gt1114111
returns-then-c-gt1114111 c = rw (no_character c.args.c (beyond c.args.c c.if-c-gt1114111.true)) puts_none

pub returns-in-Some : goal.returns-in-Some
returns-in-Some c =
    let bytes : c.as_bytes.result.now ≡ encode c.args.c =
    c.as_bytes.ensures.value ∙ c.encode_utf8.ensures.value ∙ ap bytes_of c.in-Some.ensures.value.1 ∙ same_bytes c.args.c in
    rw (a_character c.args.c (in_range c.args.c c.in-Some.ensures.cases), ← bytes) c.put_quoted.ensures

pub returns-in-None : goal.returns-in-None
returns-in-None c = rw (no_character c.args.c (out_of_range c.args.c c.if-c-gt1114111.false c.in-None.ensures.cases)) puts_none
