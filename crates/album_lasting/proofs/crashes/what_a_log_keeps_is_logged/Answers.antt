use Rattle.album_lasting.proofs.crashes.what_a_log_keeps_is_logged.Goals as goal

pub returns : goal.returns
returns c = λ cut text entries stamp items lines announced each. record {
  items = items;
  announced = announced;
  each = λ k d l. (
      let own = each k d l in
      record {
        entry = own.entry;
        there = c.what_is_kept_is_read.ensures text entries own.entry lines own.line own.spelled;
        part = own.part;
        prepared = own.prepared;
      });
}
