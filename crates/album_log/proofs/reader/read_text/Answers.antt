-- All before the first zero is read, and what stands behind the last newline is cut off.
use Rattle.std.proofs.Common.{◌≡◌, ◌++◌, ◌-◌, ◌==◌, not, ℕ, List, length, take, ap, ◌∙◌}
use Rattle.std.specs.List.{suffix_len}
use Rattle.album_log.specs.Texts.{before_zero, up_to_newline, whole_text}
use Rattle.album_log.proofs.reader.read_text.Goals as goal

pub returns-clause-text : goal.returns-clause-text
unfolding whole_text
returns-clause-text g c clean =
    let read : c.read_to_zero.new.text.items ≡ before_zero (g.D.Disk.seen c.args.disk.now) =
    c.in_ok-read_to_zero.ensures.text clean ∙ ap (λ (xs : List ℕ). xs ++ before_zero (g.D.Disk.seen c.args.disk.now)) c.new-text.ensures.items in
    let end_of : List ℕ → ℕ = λ xs. length xs - suffix_len (λ byte. not (byte == 10)) xs in
    let end : c.text_end-end.result ≡ end_of c.read_to_zero.new.text.items = c.text_end-end.ensures ∙ ap end_of c.deref.ensures.value in
    c.truncate.ensures.items ∙ ap (λ (n : ℕ). take n c.read_to_zero.new.text.items) end ∙ ap up_to_newline read
