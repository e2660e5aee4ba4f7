use Rattle.std.proofs.Common.{◌≡◌, ◌+◌, length, map, take, set, sym, ap, arith, rules, ◌∙◌}
use Rattle.std.proofs.lemmas.List.{length-set, take_all, get_or-set_other}
use Rattle.jpg_spec_fit.specs.Fitted.{joined_member}
use Rattle.jpg_fit.proofs.Lists.{map_filled}
use Rattle.jpg_fit.proofs.join.join_members.Goals as goal

pub loop-i-preserved : goal.loop-i-preserved
loop-i-preserved c =
    let i = c.loop-i.i in
    let size = c.loop-i.invariant.size in
    let l : length c.args.members.now ≡ 257 = search rules in
    let written = c.joined_member.ensures ∙ ap (joined_member c.args.first c.args.second) (c.loop-i.invariant.rest i (omega arith)) in
    record {
      done = ap (λ m. take (i + 1) (set c.loop-i.members i m)) written ∙ map_filled (joined_member c.args.first c.args.second) c.loop-i.members c.args.members.now i (0, 0) (omega (arith, size, c.loop-i-test.true)) (omega (arith, l, c.loop-i-test.true)) c.loop-i.invariant.done;
      rest = λ k h. get_or-set_other c.loop-i.members i k _ (0, 0) (λ e. omega (arith, e, h)) ∙ c.loop-i.invariant.rest k (omega (arith, h));
      size = length-set c.loop-i.members i _ ∙ size;
    }

pub returns : goal.returns
returns c =
    let size = c.loop-i.invariant.size in
    let l : length c.args.members.now ≡ 257 = search rules in
    sym (take_all c.loop-i.i c.loop-i.members (omega (arith, size, c.loop-i-test.false))) ∙ c.loop-i.invariant.done
    ∙ ap (map (joined_member c.args.first c.args.second)) (take_all c.loop-i.i c.args.members.now (omega (arith, l, c.loop-i-test.false)))
