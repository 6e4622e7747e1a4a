use Rattle.tlsf_heap.proofs.Common.{◌+◌, refl, arith, image_of}
use Rattle.tlsf_heap.proofs.lemmas.words.Checks.{Seen, image_same, header_read, seen_more}
use Rattle.tlsf_heap.proofs.check.leads_back.Goals as goal

pub returns-then-next_leads_back-clause-touched : goal.returns-then-next_leads_back-clause-touched
returns-then-next_leads_back-clause-touched c begins =
    let links = c.links-links.ensures in
    let first : Seen c.args.words.now c.links-links.new.self = record {
      same = image_same c.args.words.now c.links-links.new.self links.reads.words links.reads.starts;
      headers = header_read (image_of c.args.words.now) c.args.at 2 (c.args.at + 2) begins (omega arith) refl links.reads.touched;
    } in
    let second = seen_more c.args.words.now c.links-links.new.self c.next_leads_back.new.words first c.next_leads_back.ensures.looks c.next_leads_back.ensures.touched in
    (seen_more c.args.words.now c.next_leads_back.new.words c.previous_leads_back.new.words second c.previous_leads_back.ensures.looks c.previous_leads_back.ensures.touched).headers

pub returns-else-next_leads_back-clause-touched : goal.returns-else-next_leads_back-clause-touched
returns-else-next_leads_back-clause-touched c begins =
    let links = c.links-links.ensures in
    let first : Seen c.args.words.now c.links-links.new.self = record {
      same = image_same c.args.words.now c.links-links.new.self links.reads.words links.reads.starts;
      headers = header_read (image_of c.args.words.now) c.args.at 2 (c.args.at + 2) begins (omega arith) refl links.reads.touched;
    } in
    (seen_more c.args.words.now c.links-links.new.self c.next_leads_back.new.words first c.next_leads_back.ensures.looks c.next_leads_back.ensures.touched).headers
