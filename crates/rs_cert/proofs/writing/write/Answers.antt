use Rattle.std.proofs.Common.{◌≡◌, ◌∙◌, ◌++◌, [], ◌∷◌, ap, map, subst}
use Rattle.rs_cert.specs.Writers.{text_in}
use Rattle.rs_cert.specs.Written.{AreWritablePairs, pair_record, side_records, text_of, wanted_record, written}
use Rattle.rs_cert.proofs.WrittenFacts.{back-ok, parts-written, same-ok}
use Rattle.rs_cert.proofs.writing.write.Goals as goal

pub returns-clause-bytes : goal.returns-clause-bytes
returns-clause-bytes c =
    let pairs = c.deref.ensures.value ∙ c.items.ensures in
    let are : text_in c.put_pairs.new.self.writer ≡ written c.args.cert.now =
    parts-written c.args.cert.now (text_in c.put_wanted.new.self.writer) (text_in c.put_side.new.self.writer) (text_in c.put_side-2.new.self.writer) (text_in c.put_pairs.new.self.writer)
    (c.in_ok-put_wanted.ensures.text ∙ ap (λ text. text ++ text_of (wanted_record c.args.cert.now.k ∷ [])) c.new-records.ensures.empty)
    (c.in_ok-put_side.ensures.records.text ∙ ap (λ name. text_in c.put_wanted.new.self.writer ++ text_of (side_records name c.args.cert.now.left)) c.as_slice.ensures)
    (c.in_ok-put_side-2.ensures.records.text ∙ ap (λ name. text_in c.put_side.new.self.writer ++ text_of (side_records name c.args.cert.now.right)) c.as_slice-2.ensures)
    (c.in_ok-put_pairs.ensures.records.text ∙ ap (λ list. text_in c.put_side-2.new.self.writer ++ text_of (map pair_record list)) pairs) in
    same-ok (written c.args.cert.now) c.into_text.result (text_in c.put_pairs.new.self.writer) are c.into_text.ensures

pub returns-clause-read_back : goal.returns-clause-read_back
returns-clause-read_back c =
    back-ok c.args.cert.now c.into_text.result (returns-clause-bytes c) c.requires.wanted c.requires.few c.in_ok-put_side.ensures.rows c.in_ok-put_side-2.ensures.rows
    (subst AreWritablePairs (c.deref.ensures.value ∙ c.items.ensures) c.in_ok-put_pairs.ensures.pairs)
