-- A record is its key, its id and its counts.
use mathlib.Core.Path.{sym, ap, ◌∙◌}
use lib.ListN.{get_or}
use Rattle.index.specs.Text.{Entry}
use Rattle.index.proofs.laws.text.Writes.{counts_each}
use Rattle.index.proofs.messages.edits.put_record.Goals as goal

pub returns : goal.returns
returns c =
    let e = c.put_entry.ensures in
    record {
      rest = e.rest;
      new_key = e.stands.has_key;
      new_id = ap (λ (f : Entry). f.id) e.stands.is;
      counts = λ k l. sym (counts_each _ _ k l) ∙ ap (λ (f : Entry). get_or f.counts k 0) e.stands.is ∙ c.once-counts.ensures.1 k l;
    }
