use Rattle.std.proofs.Common.{sym, ◌∙◌}
use Rattle.cse_image.proofs.fitting.tables_fit.Goals as goal

pub returns-then-not-shape_fits : goal.returns-then-not-shape_fits
returns-then-not-shape_fits c = (λ no. absurd cc, λ fits. sym c.if-not-shape_fits.true ∙ c.shape_fits.ensures.1 (fits.records, fits.items, fits.sets, fits.order))

pub returns-then-not-values_fit : goal.returns-then-not-values_fit
returns-then-not-values_fit c = (λ no. absurd cc, λ fits. sym c.if-not-values_fit.true ∙ c.values_fit.ensures.1 (fits.constants, fits.limits, fits.texts, fits.globals))

pub returns-then-not-contents_fit : goal.returns-then-not-contents_fit
returns-then-not-contents_fit c = (λ no. absurd cc, λ fits. sym c.if-not-contents_fit.true ∙ c.contents_fit.ensures.1 (fits.arrays, fits.messages))

pub returns : goal.returns
returns c =
    let shape = c.shape_fits.ensures.0 c.if-not-shape_fits.false in
    let values = c.values_fit.ensures.0 c.if-not-values_fit.false in
    let contents = c.contents_fit.ensures.0 c.if-not-contents_fit.false in (
      λ yes. (let routes = c.routes_fit.ensures.0 yes in record {
        records = shape.0;
        items = shape.1;
        sets = shape.2;
        order = shape.3;
        constants = values.0;
        limits = values.1;
        texts = values.2;
        globals = values.3;
        arrays = contents.0;
        messages = contents.1;
        routines = routes.0;
        events = routes.1;
      }),
      λ fits. c.routes_fit.ensures.1 (fits.routines, fits.events),
    )
