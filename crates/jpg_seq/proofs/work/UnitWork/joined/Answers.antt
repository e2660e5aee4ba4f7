use Rattle.std.proofs.Common.{drop_of_length-le, ◌≡◌, ◌++◌, length, take, drop, ap, sym, ◌∙◌, arith, append_assoc, length-append, length-take, take-append-drop}
use Rattle.jpg_seq.specs.Work.{Work}
use Rattle.jpg_seq.proofs.work.UnitWork.joined.Goals as goal

pub returns : goal.returns
returns c =
    let part = c.args.self.now.part in let store = c.args.store.now in
    let same : c.self.inside.part ≡ part = ap (λ (s : Work). s.part) c.self.view_is in
    let is = c.joined.ensures ∙ ap (λ z. z ++ take 32 store) same in
    record {
      rest = drop 32 store;
      split = ap (λ z. part ++ z) (sym (take-append-drop 32 store)) ∙ sym (append_assoc part (take 32 store) (drop 32 store)) ∙ ap (λ z. z ++ drop 32 store) (sym is);
      all = λ h. drop_of_length-le store {i = 32} (omega (arith, h, ap length is, length-append part (take 32 store), length-take 32 store));
    }
