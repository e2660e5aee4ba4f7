use Rattle.jpg_coefs.specs.Picture.{map_of}
use Rattle.jpg_transform.specs.RowsMoved.{moved_of}
use Rattle.jpg_transform.proofs.RowJobs.{all_of, job_writes}
use Rattle.jpg_transform.proofs.planning.row_scan.Goals as goal

pub sole_scan-requires : goal.sole_scan-requires
sole_scan-requires c =
    let job = c.args.job.now in
    let p = c.requires.0 in
    (p.kept, job.plan.out.frame, moved_of job.transform job.plan.out.frame (map_of p.coefs), (job_writes p c.requires.1 job c.requires.2 c.checked.ensures).can)

pub returns-clause-all : goal.returns-clause-all
returns-clause-all c =
    let job = c.args.job.now in
    let p = c.requires.0 in
    all_of job.plan p.kept job.plan.out.frame _ (job_writes p c.requires.1 job c.requires.2 c.checked.ensures).can c.sole_scan.result c.sole_scan.ensures.all
