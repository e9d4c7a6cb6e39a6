use Rattle.std.proofs.Common.{◌≡◌, ◌+◌, ◌++◌, ◌∷◌, [], length, take, flat_map, sym, ap, ◌∙◌, arith, lit<, subst, List, append-nil}
use Rattle.std.specs.List.{All}
use Rattle.std.proofs.lemmas.List.{take_more, take_all, flat_map_more}
use Rattle.std.proofs.lemmas.List.Elements.{All-more, All-nil}
use Rattle.std.proofs.lemmas.Option.{get_or_from_slice_get}
use Rattle.nv_bpf.specs.declared.op.Op.{Op}
use Rattle.nv_bpf.specs.declared.op.TheConstants.{MOST_OPS}
use Rattle.nv_bpf.specs.Texts.{ended_number, op_text, ops_text, filter_of, FitsFields}
use Rattle.nv_bpf.proofs.ReadBack.{filter_of-text}
use Rattle.nv_bpf.proofs.writing.write.Goals as goal

pub loop-place-init : goal.loop-place-init
loop-place-init c =
    record {
      text = c.in_ok-put_number.ensures ∙ ap (λ before. before ++ ended_number c.len-count.result 10) c.new-text.ensures.items ∙ ap (λ n. ended_number n 10) c.len-count.ensures.count
          ∙ sym (append-nil (ended_number (length c.args.filter.now) 10));
      fits = All-nil FitsFields;
    }

pub loop-place-preserved : goal.loop-place-preserved
loop-place-preserved c =
    let ops = c.args.filter.now in
    let place = c.loop-place.place in
    let before = ended_number (length ops) 10 in
    let read = get_or_from_slice_get ops place c.at.result c.at.result c.at.ensures.op in
    let more : take (place + 1) ops ≡ take place ops ++ c.at.result ∷ [] =
    (take_more ops place c.at.result (omega (arith, c.len-count.ensures.count)) ∙ ap (λ op. take place ops ++ op ∷ []) read) in
    record {
      text = c.in_ok-put_op.ensures.text ∙ ap (λ text. text ++ op_text c.at.result) c.loop-place.invariant.text ∙ flat_map_more op_text before (take place ops) c.at.result
          ∙ ap (λ taken. before ++ flat_map op_text taken) (sym more);
      fits = All-more FitsFields ops place c.at.result (omega (arith, c.len-count.ensures.count)) c.loop-place.invariant.fits (subst FitsFields (sym read) c.in_ok-put_op.ensures.fits);
    }

whole : (c : goal.After-loop-place) → take c.loop-place.place c.args.filter.now ≡ c.args.filter.now
whole c = take_all c.loop-place.place c.args.filter.now (omega (arith, c.len-count.ensures.count))

text : (c : goal.After-loop-place) → c.loop-place.text.items ≡ ops_text c.args.filter.now
unfolding ops_text
text c = c.loop-place.invariant.text ∙ ap (λ taken. ended_number (length c.args.filter.now) 10 ++ flat_map op_text taken) (whole c)

pub returns-clause-text : goal.returns-clause-text
returns-clause-text c = text c

pub returns-clause-read_back : goal.returns-clause-read_back
returns-clause-read_back c =
    let fits : All FitsFields c.args.filter.now = (let P : List Op → Type 0 = λ ops. All FitsFields ops in subst P (whole c) c.loop-place.invariant.fits) in
    ap (filter_of MOST_OPS) (text c) ∙ filter_of-text MOST_OPS c.args.filter.now c.len-count.ensures.verified (lit< tt) fits
