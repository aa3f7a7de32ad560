-- `index` meets its contract: by what the reader of token files answers.
use Rattle.std.proofs.Common.{sym, ap, ◌∙◌, List, ◌++◌, ℕ, drop}
use Rattle.payloads.specs.Fields.{fields_of}
use Rattle.payloads.specs.Index.{begins}
use Rattle.payloads.proofs.Room.{said, none_laid, all_laid}
use Rattle.payloads.proofs.index.Goals as goal

pub returns-in-Err : goal.returns-in-Err
returns-in-Err c =
    let told = sym (said c.args.file.now c.told-starts) ∙ sym c.read.ensures.answer ∙ c.in-Err.is in
    record { answer = sym told; starts = c.read.ensures.buffer ∙ none_laid c.args.file.now c.told-starts told }

pub lay-requires : goal.lay-requires
lay-requires c = sym (said c.args.file.now c.told-starts) ∙ sym c.read.ensures.answer ∙ c.in-Ok.is

pub returns-in-Ok : goal.returns-in-Ok
returns-in-Ok c =
    let told = sym (said c.args.file.now c.told-starts) ∙ sym c.read.ensures.answer ∙ c.in-Ok.is in
    record {
      answer = sym told;
      starts = c.lay.ensures ∙ ap (λ (ws : List ℕ). begins 0 (fields_of c.args.file.now) ++ drop c.in-Ok.count ws) c.read.ensures.buffer ∙ all_laid c.args.file.now c.told-starts told;
    }
