use Rattle.std.proofs.Common.{sym, ◌∙◌, ◌≡◌, ◌++◌, ◌∷◌, [], refl, rules}
use Rattle.std.proofs.lemmas.List.{map-append}
use Rattle.album_lines.specs.Shapes.{spelled_entry}
use Rattle.album_lines.specs.declared.shapes.EntryShape.{EntryShape}
use Rattle.album_lines.proofs.Taking.{an_entry}
use Rattle.album_lines.proofs.judge_tokens.put_entry.Goals as goal

pub returns : goal.returns
returns c =
    let shape : EntryShape = record { sort = c.in_ok-sort.sort; who = c.in_ok-who.who; mask = c.in_ok-mask.mask; flags = c.in_ok-flags.flags } in
    let pushed : c.push.new.self.items ≡ c.args.shapes.now.items ++ shape ∷ [] = search rules in (
      spelled_entry shape,
      rw (pushed, map-append) refl,
      an_entry c.args.tokens.now c.take_list.new.tokens c.take_text.new.tokens c.take_text-2.new.tokens c.take_whole.new.tokens c.take_whole-2.new.tokens c.take_end.new.tokens _ _ _ _ _
          c.in_ok-take_list.ensures c.in_ok-take_text.ensures (sym c.sort.ensures ∙ c.in_ok-sort.was) c.in_ok-who.ensures c.in_ok-mask.ensures c.in_ok-flags.ensures c.in_ok-take_end.ensures,
    )
