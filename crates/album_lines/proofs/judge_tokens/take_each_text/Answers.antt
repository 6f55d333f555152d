use Rattle.std.proofs.Common.{ap, ◌≡◌, ◌++◌, ◌∷◌, [], refl, arith, rules}
use Rattle.std.proofs.lemmas.List.{map-append}
use Rattle.album_lines.specs.Fields.{text_of}
use Rattle.album_lines.specs.Tokens.{Takes}
use Rattle.json.specs.Token.{end_array}
use Rattle.json.specs.Json.{after_end_array}
use Rattle.album_lines.proofs.Taking.{shorter, one_more, all_there}
use Rattle.album_lines.proofs.judge_tokens.take_each_text.Goals as goal

pub loop-texts-smaller : goal.loop-texts-smaller
loop-texts-smaller c =
    let going : c.take_end.new.self ≡ c.loop-texts.tokens = grind arith in
    let taken : Takes 0 text_of c.loop-texts.tokens (c.in_ok-take_text.field-0.now) c.take_text.new.tokens =
    rw (← going) c.in_ok-take_text.ensures in
    shorter 0 c.loop-texts.tokens c.take_text.new.tokens taken.0 taken.1

pub loop-texts-preserved : goal.loop-texts-preserved
loop-texts-preserved c =
    let going : c.take_end.new.self ≡ c.loop-texts.tokens = grind arith in
    let taken : Takes 0 text_of c.loop-texts.tokens (c.in_ok-take_text.field-0.now) c.take_text.new.tokens =
    rw (← going) c.in_ok-take_text.ensures in
    let pushed : c.push.new.self.items ≡ c.loop-texts.texts.items ++ c.in_ok-take_text.field-0 ∷ [] = search rules in
    one_more 0 text_of c.args.tokens.now c.loop-texts.tokens c.take_text.new.tokens _ _ _ c.loop-texts.invariant (rw (pushed, map-append) refl) taken

pub returns : goal.returns
returns c =
    let closed : c.loop-texts.tokens ≡ end_array ∷ c.take_end.new.self = grind arith in
    all_there 0 text_of c.args.tokens.now c.loop-texts.tokens c.take_end.new.self _ c.loop-texts.invariant (ap after_end_array closed)
